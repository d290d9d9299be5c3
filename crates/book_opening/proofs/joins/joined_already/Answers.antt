use Rattle.std.proofs.Common.{◌≡◌, sym, ap, ◌∙◌, ◌&&◌}
use Rattle.std.specs.Str.{bytes_eq}
use Rattle.keeper_core.specs.Lists.{plan_row}
use Rattle.book_rules.specs.Good.{stages_by}
use Rattle.book_rules.specs.PlanStages.{share_a_stage}
use Rattle.book_opening.proofs.Clashes.{clash, joined_more, joined_at, joined_none}
use Rattle.book_opening.proofs.joins.joined_already.Goals as goal

pub returns-then-branch : goal.returns-then-branch
returns-then-branch c =
    let lists = c.args.tables.now.lists in
    let row = c.args.row.now in
    let other = c.other-item.result in
    let stages = c.deref.ensures.value ∙ c.in_ok-stages.ensures ∙ ap stages_by (sym c.requires) in
    let is : c.in_ok-clashes.field-0 ≡ clash lists row other =
    c.in_ok-clashes.ensures ∙ ap (λ s. bytes_eq other.key row.key && share_a_stage s (stages_by (plan_row lists other.plan))) stages in
    joined_at lists row c.args.before.now c.loop-other.other-index other c.loop-other-test.true c.other-item.is (sym is ∙ c.if-branch.true)

pub loop-other-preserved : goal.loop-other-preserved
loop-other-preserved c =
    let lists = c.args.tables.now.lists in
    let row = c.args.row.now in
    let other = c.other-item.result in
    let stages = c.deref.ensures.value ∙ c.in_ok-stages.ensures ∙ ap stages_by (sym c.requires) in
    let is : c.in_ok-clashes.field-0 ≡ clash lists row other =
    c.in_ok-clashes.ensures ∙ ap (λ s. bytes_eq other.key row.key && share_a_stage s (stages_by (plan_row lists other.plan))) stages in
    joined_more lists row c.args.before.now c.loop-other.other-index other c.loop-other-test.true c.other-item.is (sym is ∙ c.if-branch.false) c.loop-other.invariant

pub returns : goal.returns
returns c = joined_none c.args.tables.now.lists c.args.row.now c.args.before.now c.loop-other.other-index c.loop-other-test.false c.loop-other.invariant
