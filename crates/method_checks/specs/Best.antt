-- The best of the paths that match, as a function.
use Rattle.std.specs.Prelude.{ℕ, Bool, not, ◌&&◌, ◌||◌, List, Option}
use Rattle.std.specs.Cmp.Lexicographic.{slice_cmp}
use Rattle.std.specs.List.{list_all, position}
use Rattle.std.specs.Ordering.{nat_cmp, is_gt}
use Rattle.resource_tree.specs.declared.part.Part.{Part}
use Rattle.resource_tree.specs.Matching.{matches, ranks}

-- the first is not behind the second in the order of their ranks: a literal, a `{name}`, a `{name+}`
abbrev pub is_up_to : List Part → List Part → Bool
is_up_to first second = not (is_gt (slice_cmp nat_cmp (ranks first) (ranks second)))

-- the path matches, and is behind none that matches
abbrev pub is_best : List (List Part) → List (List ℕ) → List Part → Bool
is_best paths segments path = matches path segments && list_all (λ other. not (matches other segments) || is_up_to path other) paths

-- the number of the best path, where one matches
unfoldable pub best : List (List Part) → List (List ℕ) → Option ℕ
best paths segments = position (is_best paths segments) paths
