-- What roots mean, and what was written below $context.
use Rattle.std.specs.Prelude.{ℕ, Bool, true, false, ◌&&◌, List, [], ◌∷◌, Option, Some, None, if◌then◌else◌}
use Rattle.std.specs.Str.{bytes_eq}
use Rattle.vtl_values.specs.Val.{Val}
use Rattle.vtl_eval.specs.declared.roots.Root.{Root}

-- a step of a reference, its arguments and indexes being evaluated
pub data Stepped : Type 0 where
  name : List ℕ → Stepped
  place : Val → Stepped
  method : List ℕ → List Val → Stepped

-- the value of each path below a root, and under which path a write below $context is kept, where it may be written
pub record Meanings : Type 0 where
  pub value : Root → List Stepped → Val
  pub kept_at : List (List ℕ) → Option (List (List ℕ))

-- what was written: paths of names below $context, and their values
abbrev pub Kept : Type 0
Kept = List (List (List ℕ) × Val)

abbrev pub same_path : List (List ℕ) → List (List ℕ) → Bool
same_path [] [] = true
same_path [] (b ∷ others) = false
same_path (a ∷ rest) [] = false
same_path (a ∷ rest) (b ∷ others) = bytes_eq a b && same_path rest others

-- a write takes the place of the first to its path, or stands at the end
abbrev pub put_path : Kept → List (List ℕ) → Val → Kept
put_path [] path value = (path, value) ∷ []
put_path (first ∷ rest) path value = if same_path first.0 path then (path, value) ∷ rest else first ∷ put_path rest path value

-- what is kept after a write to a path that is kept there, and after one that may not be written
abbrev pub kept_after : Option (List (List ℕ)) → Kept → Val → Kept
kept_after None kept value = kept
kept_after (Some path) kept value = put_path kept path value
