use Rattle.std.proofs.Common.{List, [], ℕ, map, Bor, sym, ◌∙◌}
use Rattle.book_rules.specs.PlanStages.{all_stages}
use Rattle.book_opening.proofs.Reading.{stage_more, stages_all}
use Rattle.book_opening.proofs.plan_stages.read_all.Goals as goal

pub loop-field-preserved : goal.loop-field-preserved
loop-field-preserved c =
    let fields = c.args.fields.now in
    let all = all_stages (map (λ (field : Bor (List ℕ)). field.now) fields) in
    let more =
    stage_more c.loop-field.stages.items fields c.loop-field.field-index (record { ref_ptr = (0, 0); now = [] }) c.in-Some.stage all c.loop-field-test.true
    (sym c.in-Some.is ∙ c.in_ok-stage.ensures) c.loop-field.invariant in
    rw c.in_ok-push.ensures.items more

pub returns : goal.returns
returns c =
    let fields = c.args.fields.now in
    stages_all c.loop-field.stages.items fields c.loop-field.field-index (all_stages (map (λ (field : Bor (List ℕ)). field.now) fields)) c.loop-field-test.false c.loop-field.invariant
