-- Fields `name=value`.
use Rattle.std.specs.Prelude.{ℕ, ◌==◌, ◌+◌, List, [], ◌∷◌, take, drop, position, Option, Some}
use Rattle.std.specs.Option.{option_and_then, option_map}
use Rattle.record_fields.specs.Coding.{text_of}

-- what stands before the first `=` and behind it
abbrev pub parted : List ℕ → Option (List ℕ × List ℕ)
parted field = option_map (λ at. (take at field, drop (at + 1) field)) (position (λ b. b == 61) field)

-- a field `name=value`, both of which are texts
abbrev pub pair_of : List ℕ → Option (List ℕ × List ℕ)
pair_of field = option_and_then (λ p. option_and_then (λ name. option_map (λ value. (name, value)) (text_of p.1)) (text_of p.0)) (parted field)

abbrev pub before_each : List ℕ × List ℕ → Option (List (List ℕ × List ℕ)) → Option (List (List ℕ × List ℕ))
before_each pair rest = option_map (λ pairs. pair ∷ pairs) rest

-- the pairs of some fields, where each has its form
abbrev pub pairs_of : List (List ℕ) → Option (List (List ℕ × List ℕ))
pairs_of [] = Some []
pairs_of (field ∷ fields) = option_and_then (λ pair. before_each pair (pairs_of fields)) (pair_of field)
