use Rattle.std.proofs.Common.{◌≡◌, ◌<◌, false, length, sym, subst, ◌∙◌, arith, add-one}
use Rattle.policy_memory.specs.declared.flushes.StageFlush.{StageFlush}
use Rattle.policy_memory.specs.Names.{same_stage}
use Rattle.policy_memory.proofs.Rows.{none-more}
use Rattle.policy_memory.proofs.flushes.find_flush.Goals as goal

pub loop-i-preserved : goal.loop-i-preserved
loop-i-preserved c =
    let lt : c.loop-i.i < length c.args.rows.now = omega arith in
    let off : same_stage c.index-rows-i.result.api c.index-rows-i.result.stage c.args.api.now c.args.stage.now ≡ false = sym c.is_of.ensures ∙ c.if-is_of.false in
    rw add-one (none-more c.args.api.now c.args.stage.now c.args.rows.now c.loop-i.i c.index-rows-i.result lt c.loop-i.invariant
    (subst (λ (x : StageFlush). same_stage x.api x.stage c.args.api.now c.args.stage.now ≡ false) c.index-rows-i.is off))
