use Rattle.std.proofs.Common.{rules}
use Rattle.http_framing.proofs.Overs.{takes_both}
use Rattle.http_framing.proofs.reply_head.await_reply_head.Goals as goal

pub returns-in-Memory-filled-clause-taken : goal.returns-in-Memory-filled-clause-taken
returns-in-Memory-filled-clause-taken g c = takes_both _ _ _ c.loop-spans.invariant.taken c.fill_line-filled.ensures.taken

pub loop-spans-preserved : goal.loop-spans-preserved
loop-spans-preserved g c = record {
  same = search rules;
  taken = takes_both _ _ _ c.loop-spans.invariant.taken c.fill_line-filled.ensures.taken;
  end = search rules;
  rose = search rules;
  later = search rules;
  beside = search rules;
}
