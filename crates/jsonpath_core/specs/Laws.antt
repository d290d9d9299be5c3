-- What holds of the definitions, whatever the program does.
use Rattle.std.specs.Prelude.{◌≡◌, ◌↔◌, ℕ, ◌≤◌, false, List, ◌++◌, length, flat_map, Ok, Err}
use Rattle.json_subset.specs.Grammar.{Spells}
use Rattle.json_subset.specs.Tree.{Tree}
use Rattle.jsonpath_core.specs.declared.fault.PathFault.TheVariants.{BadPath}
use Rattle.jsonpath_core.specs.Faults.{IsBadAt}
use Rattle.jsonpath_core.specs.Order.{InOrder}
use Rattle.jsonpath_core.specs.Reading.{path_of}
use Rattle.jsonpath_core.specs.Selecting.{select}
use Rattle.jsonpath_core.specs.Spelling.{IsPath}
use Rattle.jsonpath_core.specs.Steps.{Step, starred}

-- a text is read as just the steps that it is spelled with
abbrev pub ReadsAsSpelled : Type 0
ReadsAsSpelled = (text : List ℕ) (steps : List Step) → (path_of text ≡ Ok steps) ↔ IsPath text steps

-- a text is refused at just the first byte that cannot go on, or at its length where more would have to follow
abbrev pub RefusesAtTheFirst : Type 0
RefusesAtTheFirst = (text : List ℕ) (at : ℕ) → (path_of text ≡ Err (BadPath at)) ↔ IsBadAt text at

-- a text is the path of one list of steps at most
abbrev pub HasOneReading : Type 0
HasOneReading = (text : List ℕ) (first second : List Step) → IsPath text first → IsPath text second → first ≡ second

-- a path without a star selects one node at most
abbrev pub SelectsOneAtMost : Type 0
SelectsOneAtMost = (steps : List Step) (t : Tree) → starred steps ≡ false → length (select steps t) ≤ 1

-- further steps select, of each node that the steps before them select, in the order of these
abbrev pub SelectsInTurn : Type 0
SelectsInTurn = (first second : List Step) (t : Tree) → select (first ++ second) t ≡ flat_map (select second) (select first t)

-- the nodes that a path selects of a document come in its order: each ends before the next begins, so no two are the same
abbrev pub SelectsInOrder : Type 0
SelectsInOrder = (bytes : List ℕ) (t : Tree) (steps : List Step) → Spells bytes t → InOrder 0 (select steps t)
