use Rattle.std.proofs.Common.{◌≡◌, ◌∷◌, [], drop, map}
use Rattle.std.specs.Prelude.{All}
use Rattle.json_subset.specs.Documents.{IsPart, part}
use Rattle.jsonpath_core.specs.Selecting.{select_from}
use Rattle.jsonpath_core.specs.Views.{steps_view}
use Rattle.jsonpath_core.proofs.selector.select_all.Given as goal

-- what the steps that are left select of these nodes is what all select
abbrev pub invariant-loop-step : goal.invariant-loop-step
invariant-loop-step l = record {
  parts : All (IsPart l.doc) l.nodes.items;
  so_far : select_from (steps_view (drop l.step-index l.steps)) (map (part l.doc) l.nodes.items) ≡ select_from (steps_view l.steps) (part l.doc l.fn.from ∷ []);
}
