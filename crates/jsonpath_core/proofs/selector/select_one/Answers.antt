use Rattle.std.proofs.Common.{ap, ◌∙◌, sym}
use Rattle.json_subset.specs.Documents.{part}
use Rattle.jsonpath_core.specs.Selecting.{selected}
use Rattle.jsonpath_core.specs.Steps.{is_star}
use Rattle.jsonpath_core.specs.Views.{step_view}
use Rattle.jsonpath_core.proofs.Selected.{starless_at, selects_none}
use Rattle.jsonpath_core.proofs.selector.select_one.Goals as goal

pub step_one-requires-clause-starless : goal.step_one-requires-clause-starless
step_one-requires-clause-starless c =
    ap (λ s. is_star (step_view s)) c.step-item.is ∙ starless_at c.args.steps.now c.loop-step.step-index c.step-item.result c.requires.starless c.loop-step-test.true

pub returns-in_err-node : goal.returns-in_err-node
returns-in_err-node c =
    let node = part c.args.doc.now c.loop-step.node in
    let none = ap (λ s. selected (step_view s) node) (sym c.step-item.is) ∙ c.in_err-node.ensures in
    rw c.from_residual.ensures (sym c.loop-step.invariant.so_far ∙ selects_none c.args.steps.now c.loop-step.step-index c.step-item.result node c.loop-step-test.true none)
