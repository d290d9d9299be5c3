use Rattle.std.proofs.Common.{get_or}
use Rattle.schema_order.proofs.Rounds.{among_at, ready_next, ready_past}
use Rattle.schema_order.proofs.ranks.are_ready.Goals as goal

pub returns-then-is_waiting-clause-no : goal.returns-then-is_waiting-clause-no
returns-then-is_waiting-clause-no c = λ _. record {
  by = get_or c.args.ks.now c.loop-s.s-index 0;
  named = among_at c.args.ks.now c.loop-s.s-index c.loop-s-test.true;
  waits = c.is_waiting.ensures.yes c.if-is_waiting.true;
}

pub loop-s-preserved : goal.loop-s-preserved
loop-s-preserved c = λ rest. c.loop-s.invariant (ready_next c.args.ranks.now c.args.ks.now c.loop-s.s-index c.loop-s-test.true (c.is_waiting.ensures.no c.if-is_waiting.false) rest)

pub returns-clause-yes : goal.returns-clause-yes
returns-clause-yes c = λ _. c.loop-s.invariant (ready_past c.args.ranks.now c.args.ks.now c.loop-s.s-index c.loop-s-test.false)
