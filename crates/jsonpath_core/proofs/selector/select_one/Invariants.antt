use Rattle.std.proofs.Common.{◌≡◌, ◌∷◌, [], drop}
use Rattle.json_subset.specs.Documents.{IsPart, part}
use Rattle.jsonpath_core.specs.Selecting.{select_from}
use Rattle.jsonpath_core.specs.Views.{steps_view}
use Rattle.jsonpath_core.proofs.selector.select_one.Given as goal

-- what the steps that are left select of this node is what all select
abbrev pub invariant-loop-step : goal.invariant-loop-step
invariant-loop-step l = record {
  stands : IsPart l.doc l.node;
  so_far : select_from (steps_view (drop l.step-index l.steps)) (part l.doc l.node ∷ []) ≡ select_from (steps_view l.steps) (part l.doc l.fn.from ∷ []);
}
