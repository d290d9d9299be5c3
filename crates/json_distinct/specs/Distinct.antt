-- When no two values of a list are the same, and when no object repeats a name.
use Rattle.std.specs.Prelude.{◌≡◌, Bool, true, false, None, if◌then◌else◌}
use Rattle.json_subset.specs.Tree.{Tree, node, Form, null, bool, number, text, list, object, Trees, no_trees, tree, Members, no_members, member}
use Rattle.json_subset.specs.Documents.{first_named}
use Rattle.json_values.specs.Same.{same}

abbrev pub is_in : Tree → Trees → Bool
is_in t no_trees = false
is_in t (tree u us) = if same t u then true else is_in t us

-- no two are the same
abbrev pub are_distinct : Trees → Bool
are_distinct no_trees = true
are_distinct (tree t ts) = if is_in t ts then false else are_distinct ts

-- no object of a value has a name twice
abbrev mutual
  pub IsOnceNamed : Tree → Type 0
  IsOnceNamed (node a b f) = IsOnceNamedForm f

  pub IsOnceNamedForm : Form → Type 0
  IsOnceNamedForm null = Unit {0}
  IsOnceNamedForm (bool b) = Unit {0}
  IsOnceNamedForm (number x s) = Unit {0}
  IsOnceNamedForm (text s) = Unit {0}
  IsOnceNamedForm (list ts) = AreOnceNamed ts
  IsOnceNamedForm (object ms) = HasNamesOnce ms

  pub AreOnceNamed : Trees → Type 0
  AreOnceNamed no_trees = Unit {0}
  AreOnceNamed (tree t ts) = IsOnceNamed t × AreOnceNamed ts

  pub HasNamesOnce : Members → Type 0
  HasNamesOnce no_members = Unit {0}
  HasNamesOnce (member x t ms) = (first_named ms x ≡ None) × IsOnceNamed t × HasNamesOnce ms
