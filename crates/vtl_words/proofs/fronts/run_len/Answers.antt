use Rattle.std.proofs.Common.{◌∙◌, arith, sym}
use Rattle.vtl_words.proofs.TextRuns.{one_more}
use Rattle.vtl_words.proofs.fronts.run_len.Goals as goal

pub loop-n-preserved : goal.loop-n-preserved
loop-n-preserved c = (omega (arith, c.loop-n-test.true), one_more _ _ _ _ c.loop-n-test.true c.piece_at.ensures (sym c.if-is_text.true ∙ c.is_text.ensures) c.loop-n.invariant.1)
