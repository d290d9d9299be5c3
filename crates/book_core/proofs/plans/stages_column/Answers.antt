use Rattle.std.proofs.Common.{◌≡◌, ◌==◌, ◌++◌, ◌∷◌, [], length, take, get_or, ◌∙◌, ap, sym, lit<}
use Rattle.std.specs.String.{string_bytes, string_len}
use Rattle.std.proofs.lemmas.Bool.{cond-true, cond-false}
use Rattle.book_rules.specs.PlanStages.{stage_field, stages_column}
use Rattle.book_core.proofs.Columned.{spaced, column_more}
use Rattle.book_core.proofs.plans.stages_column.Goals as goal
use Rattle.book_core.proofs.plans.stages_column.Goals.{then-not-is_empty+in_ok-push, else-not-is_empty}

pub loop-stage-preserved : goal.loop-stage-preserved
loop-stage-preserved c =
    let so_far = string_bytes c.loop-stage.column in
    let stages = c.args.stages.now in
    let stage = c.stage-item.result in
    let empty : (length so_far == 0) ≡ (string_len c.loop-stage.column == 0) = ap (λ n. n == 0) (sym c.loop-stage.column.bytes.ok.0) in
    let behind : string_bytes c.if-not-is_empty.column ≡ spaced so_far =
    elim c.if-not-is_empty.branch [
      | then-not-is_empty+in_ok-push w ↦
          ap string_bytes w.column-is ∙ w.in_ok-push.ensures.bytes ∙ ap (λ t. so_far ++ t) (w.in_ok-push.ensures.ascii (lit< tt))
          ∙ sym (cond-false (length so_far == 0) so_far (so_far ++ 32 ∷ []) (empty ∙ sym w.if-not-is_empty.ensures))
      | else-not-is_empty w ↦ ap string_bytes w.column-is ∙ sym (cond-true (length so_far == 0) so_far (so_far ++ 32 ∷ []) (empty ∙ sym w.if-not-is_empty.ensures))
    ] in
    c.in_ok-write_stage.ensures ∙ ap (λ t. t ++ stage_field stage) (behind ∙ ap spaced c.loop-stage.invariant)
    ∙ ap (λ s. spaced (stages_column (take c.loop-stage.stage-index stages)) ++ stage_field s) c.stage-item.is ∙ column_more stages c.loop-stage.stage-index stage c.loop-stage-test.true
