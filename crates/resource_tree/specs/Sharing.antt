-- How parts are compared, and which parts clash.
use Rattle.std.specs.Prelude.{◌≢◌, ℕ, ◌-◌, Bool, true, false, not, ◌&&◌, ◌||◌, List, [], ◌∷◌, ◌++◌, length, take}
use Rattle.std.specs.List.{list_any}
use Rattle.std.specs.Str.{bytes_eq}
use Rattle.resource_tree.specs.declared.part.Part.{Part}
use Rattle.resource_tree.specs.declared.part.Part.TheVariants.{Literal, Parameter, Greedy}

-- the parts are the same
unfoldable pub same_part : Part → Part → Bool
same_part (Literal first) (Literal second) = bytes_eq first second
same_part (Parameter first) (Parameter second) = bytes_eq first second
same_part (Greedy first) (Greedy second) = bytes_eq first second
same_part first second = false

-- the parts are both a `{name}`, or both a `{name+}`, of different names
unfoldable pub renames : Part → Part → Bool
renames (Parameter first) (Parameter second) = not (bytes_eq first second)
renames (Greedy first) (Greedy second) = not (bytes_eq first second)
renames first second = false

-- Two paths clash:
pub data AreClashing : List Part → List Part → Type 0 where
  -- they are the same,
  same : (parts : List Part) → AreClashing parts parts
  -- or the same up to a place where both have a `{name}`, of different names,
  names : (shared rest others : List Part) (first second : List ℕ) → first ≢ second → AreClashing (shared ++ Parameter first ∷ rest) (shared ++ Parameter second ∷ others)
  -- or both a `{name+}`, of different names.
  greedy_names : (shared rest others : List Part) (first second : List ℕ) → first ≢ second → AreClashing (shared ++ Greedy first ∷ rest) (shared ++ Greedy second ∷ others)

-- the test of whether they do, part by part
abbrev pub clashes : List Part → List Part → Bool
clashes [] [] = true
clashes [] (q ∷ second) = false
clashes (p ∷ first) [] = false
clashes (p ∷ first) (q ∷ second) = renames p q || (same_part p q && clashes first second)

abbrev pub is_greedy : Part → Bool
is_greedy (Greedy name) = true
is_greedy part = false

-- no `{name+}` stands before the last part
unfoldable pub greedy_last : List Part → Bool
greedy_last parts = not (list_any is_greedy (take (length parts - 1) parts))
