-- The nodes of a document that a path selects.
use Rattle.std.specs.Prelude.{List, [], ◌∷◌, ◌++◌, option_to_list}
use Rattle.json_subset.specs.Tree.{Tree, Form, null, bool, number, text, list, object, Trees, no_trees, tree, Members, no_members, member}
use Rattle.json_subset.specs.Documents.{form, item_at, member_named}
use Rattle.jsonpath_core.specs.Steps.{Step, name, index, star}

abbrev pub items : Trees → List Tree
items no_trees = []
items (tree t ts) = t ∷ items ts

abbrev pub values : Members → List Tree
values no_members = []
values (member x t ms) = t ∷ values ms

-- the items of a list, or the values of an object's members, in the order of the document
abbrev pub children : Form → List Tree
children null = []
children (bool b) = []
children (number k s) = []
children (text t) = []
children (list ts) = items ts
children (object ms) = values ms

-- What a step selects of a value: a name the first member of that name, in an object alone; an index an item, in a list alone; a star all children.
abbrev pub selected : Step → Tree → List Tree
selected (name n) t = option_to_list (member_named (form t) n)
selected (index i) t = option_to_list (item_at (form t) i)
selected star t = children (form t)

-- what it selects of each of these values, one after another
abbrev pub selected_of_each : Step → List Tree → List Tree
selected_of_each s [] = []
selected_of_each s (t ∷ ts) = selected s t ++ selected_of_each s ts

abbrev pub select_from : List Step → List Tree → List Tree
select_from [] ts = ts
select_from (s ∷ steps) ts = select_from steps (selected_of_each s ts)

-- the nodes that a path selects, in the order of the document
abbrev pub select : List Step → Tree → List Tree
select steps t = select_from steps (t ∷ [])
