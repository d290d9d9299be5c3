-- The steps of a path.
use Rattle.std.specs.Prelude.{ℕ, Bool, true, false, List}
use Rattle.std.specs.List.{list_any}

-- One step of a path:
pub data Step : Type 0 where
  -- to the member of this name,
  name : List ℕ → Step
  -- to the item at this place of a list, counted from 0,
  index : ℕ → Step
  -- or to each item of a list, or to the value of each member of an object.
  star : Step

abbrev pub is_star : Step → Bool
is_star (name n) = false
is_star (index i) = false
is_star star = true

-- a star stands in the path
abbrev pub starred : List Step → Bool
starred steps = list_any is_star steps
