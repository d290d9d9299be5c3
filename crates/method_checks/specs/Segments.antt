-- The segments of a request's path.
use Rattle.std.specs.Prelude.{ℕ, ◌==◌, ◌-◌, Bool, false, List, [], ◌∷◌, length, map, take, if◌then◌else◌}
use Rattle.std.specs.List.{slice_split}
use Rattle.std.specs.Str.Lossy.{utf8_lossy}
use Rattle.percent_encoding.specs.Percent.{percent_decode}
use Rattle.call_facts.specs.Target.{past}

-- a part of the path without its percent codes (RFC 3986, section 2.1); bytes that are no UTF-8 become U+FFFD
abbrev pub decoded : List ℕ → List ℕ
decoded part = utf8_lossy (percent_decode part)

-- the last part is empty
abbrev pub ends_empty : List (List ℕ) → Bool
ends_empty [] = false
ends_empty (part ∷ []) = length part == 0
ends_empty (part ∷ next ∷ parts) = ends_empty (next ∷ parts)

-- the parts without one empty part at their end
abbrev pub without_last_empty : List (List ℕ) → List (List ℕ)
without_last_empty parts = if ends_empty parts then take (length parts - 1) parts else parts

-- the segments of a path behind its stage: the parts between its slashes, without one empty part at their end, decoded
unfoldable pub segments_of : List ℕ → List (List ℕ)
segments_of path = map decoded (without_last_empty (slice_split (λ b. b == 47) (past 47 path)))
