-- The places of one text in another, from the left and without overlap.
use Rattle.std.specs.Prelude.{ℕ, zero, suc, Bool, List, [], ◌∷◌, ◌++◌, length, nat_eq, nat_le, ◌==◌, is_some, Option, Some, None, if◌then◌else◌}
use Rattle.std.specs.Option.{option_map, option_map_or}
use Rattle.std.specs.List.{starts_with as begins_with, ends_with as stops_with}

-- what follows s at the front of t; none where t doesn't begin with s
abbrev pub behind : List ℕ → List ℕ → Option (List ℕ)
behind [] t = Some t
behind (c ∷ s) [] = None
behind (c ∷ s) (b ∷ t) = if b == c then behind s t else None

-- a cut in front of the byte b, or else the later one
abbrev pub earliest : ℕ → Option (List ℕ) → Option (List ℕ × List ℕ) → Option (List ℕ × List ℕ)
earliest b (Some rest) later = Some ([], rest)
earliest b None later = option_map (λ c. (b ∷ c.0, c.1)) later

-- what stands before the first s in t, and what behind it; none where s stands nowhere
abbrev pub cut : List ℕ → List ℕ → Option (List ℕ × List ℕ)
cut [] s = option_map (λ rest. ([], rest)) (behind s [])
cut (b ∷ t) s = earliest b (behind s (b ∷ t)) (cut t s)

-- whether s stands in t, at its front, at its end
unfoldable pub contains : List ℕ → List ℕ → Bool
contains t s = is_some (cut t s)

unfoldable pub starts_with : List ℕ → List ℕ → Bool
starts_with t s = begins_with nat_eq t s

unfoldable pub ends_with : List ℕ → List ℕ → Bool
ends_with t s = stops_with nat_eq t s

-- the parts of t round the first n of its s
abbrev pub parts_within : ℕ → List ℕ → List ℕ → List (List ℕ)
parts_within zero t s = t ∷ []
parts_within (suc n) t s = option_map_or (λ c. c.0 ∷ parts_within n c.1 s) (cut t s) (t ∷ [])

-- the parts of t round each s, which is not empty: t has no more of them than bytes
unfoldable pub parts : List ℕ → List ℕ → List (List ℕ)
parts t s = parts_within (length t) t s

-- these parts, with r between each two
abbrev pub joined : List ℕ → List (List ℕ) → List ℕ
joined r [] = []
joined r (p ∷ []) = p
joined r (p ∷ q ∷ ps) = p ++ (r ++ joined r (q ∷ ps))

-- t with r in the place of each s, which is not empty
unfoldable pub exchanged : List ℕ → List ℕ → List ℕ → List ℕ
exchanged t s r = joined r (parts t s)

-- the same of any s: an empty one has no answer
unfoldable pub replaced : List ℕ → List ℕ → List ℕ → Option (List ℕ)
replaced t s r = if length s == 0 then None else Some (exchanged t s r)

-- a text of at most so many bytes; none where it is longer
unfoldable pub within : ℕ → List ℕ → Option (List ℕ)
within most t = if nat_le (length t) most then Some t else None

-- a part before the parts that are left of the rest: it goes where it is empty and nothing is left
abbrev pub part_before : List ℕ → List (List ℕ) → List (List ℕ)
part_before p [] = if length p == 0 then [] else p ∷ []
part_before p (q ∷ ps) = p ∷ q ∷ ps

-- the parts without the empty ones at their end
abbrev pub without_empty_end : List (List ℕ) → List (List ℕ)
without_empty_end [] = []
without_empty_end (p ∷ ps) = part_before p (without_empty_end ps)

-- the parts of t round each s, which is not empty, without the empty ones at their end; of an empty t one empty part
unfoldable pub split_at : List ℕ → List ℕ → List (List ℕ)
split_at t s = if length t == 0 then [] ∷ [] else without_empty_end (parts t s)
