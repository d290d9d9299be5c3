-- Worked answers of the definitions.
use Rattle.std.proofs.Common.{◌≡◌, ◌∷◌, [], codes, Ok, Err, refl}
use Rattle.json_subset.specs.Tree.{Tree, node, null, text, list, object, trees_of, members_of}
use Rattle.jsonpath_core.specs.declared.fault.PathFault.TheVariants.{BadPath}
use Rattle.jsonpath_core.specs.Reading.{path_of, step}
use Rattle.jsonpath_core.specs.Selecting.{select}
use Rattle.jsonpath_core.specs.Steps.{name, index, star}

two_dots : path_of (codes "$..a") ≡ Err (BadPath 2)
unfolding path_of step
two_dots = refl

blank : path_of (codes "$.a b") ≡ Err (BadPath 3)
unfolding path_of step
blank = refl

open_name : path_of (codes "$['a") ≡ Err (BadPath 4)
unfolding path_of step
open_name = refl

all_forms : path_of (codes "$.a['b c'][\"\"][007].*[*]") ≡ Ok (name (codes "a") ∷ name (codes "b c") ∷ name [] ∷ index 7 ∷ star ∷ star ∷ [])
unfolding path_of step
all_forms = refl

-- {"a": [null, "x"], "b": null}, each value named by its first place
abbrev first : Tree
first = node 7 11 null

abbrev second : Tree
second = node 13 16 (text (codes "x"))

abbrev third : Tree
third = node 23 27 null

abbrev listed : Tree
listed = node 6 17 (list (trees_of (first ∷ second ∷ [])))

abbrev whole : Tree
whole = node 0 28 (object (members_of ((codes "a", listed) ∷ (codes "b", third) ∷ [])))

members : select (star ∷ []) whole ≡ listed ∷ third ∷ []
members = refl

items_of_members : select (star ∷ star ∷ []) whole ≡ first ∷ second ∷ []
items_of_members = refl

one_item : select (name (codes "a") ∷ index 1 ∷ []) whole ≡ second ∷ []
one_item = refl

no_index_of_an_object : select (index 0 ∷ []) whole ≡ []
no_index_of_an_object = refl
