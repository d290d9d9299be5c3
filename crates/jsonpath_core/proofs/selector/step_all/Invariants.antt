use Rattle.std.proofs.Common.{◌≡◌, ◌++◌, drop, map}
use Rattle.std.specs.Prelude.{All}
use Rattle.json_subset.specs.Documents.{IsPart, part}
use Rattle.jsonpath_core.specs.Selecting.{selected_of_each}
use Rattle.jsonpath_core.specs.Views.{step_view}
use Rattle.jsonpath_core.proofs.selector.step_all.Given as goal

-- what was found, and what the step selects of the nodes that are left
abbrev pub invariant-loop-node : goal.invariant-loop-node
invariant-loop-node l = record {
  parts : All (IsPart l.doc) l.found.items;
  so_far : map (part l.doc) l.found.items ++ selected_of_each (step_view l.step) (map (part l.doc) (drop l.node-index l.nodes)) ≡ selected_of_each (step_view l.step) (map (part l.doc) l.nodes);
}
