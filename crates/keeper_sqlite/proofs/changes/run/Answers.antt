use Rattle.keeper_sqlite.proofs.Steps.{inside_ran}
use Rattle.keeper_sqlite.proofs.changes.run.Goals as goal

pub returns-in-Err-clause-inside : goal.returns-in-Err-clause-inside
returns-in-Err-clause-inside g c = inside_ran g.S.Store _ _ _ _ _ _ c.execute.ensures.ended c.execute.ensures.runs c.execute.ensures.survives
