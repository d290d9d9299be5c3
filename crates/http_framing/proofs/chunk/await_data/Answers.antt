use Rattle.std.proofs.Common.{rules}
use Rattle.http_framing.proofs.Overs.{takes_both}
use Rattle.http_framing.proofs.chunk.await_data.Goals as goal

pub loop-source-preserved : goal.loop-source-preserved
loop-source-preserved g c = record {
  same = search rules;
  taken = takes_both _ _ _ c.loop-source.invariant.taken c.fill.ensures.taken;
  later = search rules;
  beside = search rules;
}

pub returns-in-End-clause-taken : goal.returns-in-End-clause-taken
returns-in-End-clause-taken g c = takes_both _ _ _ c.loop-source.invariant.taken c.fill.ensures.taken

pub returns-in-Fault-clause-taken : goal.returns-in-Fault-clause-taken
returns-in-Fault-clause-taken g c = takes_both _ _ _ c.loop-source.invariant.taken c.fill.ensures.taken

pub returns-in-Memory-clause-taken : goal.returns-in-Memory-clause-taken
returns-in-Memory-clause-taken g c = takes_both _ _ _ c.loop-source.invariant.taken c.fill.ensures.taken
