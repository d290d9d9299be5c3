use Rattle.std.proofs.Common.{arith}
use Rattle.keeper_sqlite.proofs.Steps.{shown_keeps, failed_query_keeps}
use Rattle.keeper_sqlite.proofs.changes.find.Goals as goal

pub returns-in-Ok-clause-inside : goal.returns-in-Ok-clause-inside
returns-in-Ok-clause-inside g c = record {
  crash = c.query_all.ensures.survives;
  kept = λ clean. shown_keeps _ _ _ _ _ (c.requires (omega (arith, c.query_all.ensures.survives.clean))) (c.in-Ok.ensures.ok clean);
}

pub returns-in-Err-clause-inside : goal.returns-in-Err-clause-inside
returns-in-Err-clause-inside g c = record {
  crash = c.query_all.ensures.survives;
  kept = λ clean. failed_query_keeps _ _ _ _ _ (c.in-Err.ensures.err clean);
}
