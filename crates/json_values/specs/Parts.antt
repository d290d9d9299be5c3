-- The parts of a value, as lists.
use Rattle.std.specs.Prelude.{ℕ, Bool, true, false, List, [], ◌∷◌}
use Rattle.json_subset.specs.Tree.{Tree, Form, null, bool, number, text, list, object, Trees, no_trees, tree, Members, no_members, member}

abbrev pub trees_in : Trees → List Tree
trees_in no_trees = []
trees_in (tree t ts) = t ∷ trees_in ts

abbrev pub members_in : Members → List (List ℕ × Tree)
members_in no_members = []
members_in (member x t ms) = (x, t) ∷ members_in ms

-- the items of a list, and of any other value none
abbrev pub items_of : Form → List Tree
items_of null = []
items_of (bool b) = []
items_of (number x s) = []
items_of (text t) = []
items_of (list ts) = trees_in ts
items_of (object ms) = []

-- the members of an object, and of any other value none
abbrev pub entries_of : Form → List (List ℕ × Tree)
entries_of null = []
entries_of (bool b) = []
entries_of (number x s) = []
entries_of (text t) = []
entries_of (list ts) = []
entries_of (object ms) = members_in ms

abbrev pub is_number : Form → Bool
is_number null = false
is_number (bool b) = false
is_number (number x s) = true
is_number (text t) = false
is_number (list ts) = false
is_number (object ms) = false
