-- Where a text stops being a path.
use Rattle.std.specs.Prelude.{ℕ, suc, ◌<◌, ◌≤◌, List, ◌++◌, length, take}
use Rattle.jsonpath_core.specs.Steps.{Step}
use Rattle.jsonpath_core.specs.Spelling.{IsPath}

-- some path begins with these bytes
pub record BeginsPath (front : List ℕ) : Type 0 where
  pub more : List ℕ
  pub steps : List Step
  pub path : IsPath (front ++ more) steps

-- The text is no path, and this is the place of its first byte that cannot go on, or its length where more would have to follow:
pub record IsBadAt (text : List ℕ) (at : ℕ) : Type 0 where
  pub within : at ≤ length text
  -- it is no path;
  pub none : (steps : List Step) → IsPath text steps → ⊥
  -- some path begins with the bytes before that place,
  pub goes_on : BeginsPath (take at text)
  -- and none with these and the one that stands there.
  pub stops : at < length text → BeginsPath (take (suc at) text) → ⊥
