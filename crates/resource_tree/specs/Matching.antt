-- What the parts of a path take, and which path is best.
use Rattle.std.specs.Prelude.{◌≡◌, ◌≢◌, ℕ, ◌^◌, ◌<◌, ◌≤◌, All, AllPairs, Bool, true, false, ◌&&◌, List, [], ◌∷◌, length, map, slice_index_or}
use Rattle.std.specs.Cmp.Lexicographic.{slice_cmp}
use Rattle.std.specs.List.{list_all, join_with_byte}
use Rattle.std.specs.Ordering.{nat_cmp, is_gt}
use Rattle.std.specs.Str.{bytes_eq}
use Rattle.resource_tree.specs.declared.part.Part.{Part}
use Rattle.resource_tree.specs.declared.part.Part.TheVariants.{Literal, Parameter, Greedy}
use Rattle.resource_tree.specs.Sharing.{clashes, greedy_last}
use Rattle.resource_tree.specs.Spelling.{has_bytes}

-- The parts take the segments, with these parameters:
pub data Takes : List Part → List (List ℕ) → List (List ℕ × List ℕ) → Type 0 where
  -- none take none;
  none : Takes [] [] []
  -- a literal takes the same text, which is not empty;
  literal : {parts : List Part} {segments : List (List ℕ)} {found : List (List ℕ × List ℕ)} (text : List ℕ) → text ≢ [] → Takes parts segments found → Takes (Literal text ∷ parts) (text ∷ segments) found
  -- a `{name}` takes any text that is not empty;
  parameter : {parts : List Part} {segments : List (List ℕ)} {found : List (List ℕ × List ℕ)} (name text : List ℕ) → text ≢ [] → Takes parts segments found → Takes (Parameter name ∷ parts) (text ∷ segments) ((name, text) ∷ found)
  -- and a `{name+}`, at the end, takes one or more, none of them empty, and joins them by `/`.
  greedy : (name first : List ℕ) (others : List (List ℕ)) → All (λ text. text ≢ []) (first ∷ others) → Takes (Greedy name ∷ []) (first ∷ others) ((name, join_with_byte 47 (first ∷ others)) ∷ [])

-- The test of whether they do: a literal takes the same text, a `{name}` any text, and a `{name+}` all that is left. None takes the empty text.
abbrev pub matches : List Part → List (List ℕ) → Bool
matches [] [] = true
matches [] (segment ∷ segments) = false
matches (part ∷ parts) [] = false
matches (Literal text ∷ parts) (segment ∷ segments) = has_bytes segment && (bytes_eq text segment && matches parts segments)
matches (Parameter name ∷ parts) (segment ∷ segments) = has_bytes segment && matches parts segments
matches (Greedy name ∷ parts) (segment ∷ segments) = list_all has_bytes (segment ∷ segments)

-- the names of its parameters, each with what it takes: a `{name}` its segment, a `{name+}` its segments joined by `/`
abbrev pub params : List Part → List (List ℕ) → List (List ℕ × List ℕ)
params [] segments = []
params (part ∷ parts) [] = []
params (Literal text ∷ parts) (segment ∷ segments) = params parts segments
params (Parameter name ∷ parts) (segment ∷ segments) = (name, segment) ∷ params parts segments
params (Greedy name ∷ parts) (segment ∷ segments) = (name, join_with_byte 47 (segment ∷ segments)) ∷ []

-- a literal is better than a `{name}`, and that than a `{name+}`
abbrev pub rank : Part → ℕ
rank (Literal text) = 0
rank (Parameter name) = 1
rank (Greedy name) = 2

abbrev pub ranks : List Part → List ℕ
ranks parts = map rank parts

-- the first is not behind the second in dictionary order
abbrev pub IsUpTo : List ℕ → List ℕ → Type 0
IsUpTo first second = is_gt (slice_cmp nat_cmp first second) ≡ false

-- What a list of paths that is built has:
pub record IsTable (paths : List (List Part)) : Type 0 where
  -- an index below 2^32 for each,
  pub small : length paths ≤ 2 ^ 32
  -- no `{name+}` before the last part of one,
  pub last : All (λ parts. greedy_last parts ≡ true) paths
  -- and no two that clash.
  pub apart : AllPairs (λ earlier later. clashes earlier later ≡ false) paths

-- the parts of the path at this place
abbrev pub path_at : List (List Part) → ℕ → List Part
path_at paths at = slice_index_or paths at []

-- the path at this place is the best of those that match: its list of ranks is the least in dictionary order
pub record IsBest (paths : List (List Part)) (segments : List (List ℕ)) (at : ℕ) : Type 0 where
  pub within : at < length paths
  pub matched : matches (path_at paths at) segments ≡ true
  pub least : (k : ℕ) → k < length paths → matches (path_at paths k) segments ≡ true → IsUpTo (ranks (path_at paths at)) (ranks (path_at paths k))

-- no path matches
abbrev pub MatchesNone : List (List Part) → List (List ℕ) → Type 0
MatchesNone paths segments = (k : ℕ) → k < length paths → matches (path_at paths k) segments ≡ false
