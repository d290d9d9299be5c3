use Rattle.keeper_sqlite.proofs.Steps.{prepared_keeps}
use Rattle.keeper_sqlite.proofs.changes.is_open.Goals as goal

pub returns-clause-inside : goal.returns-clause-inside
returns-clause-inside g c = record { crash = c.prepare.ensures.survives; kept = λ clean. prepared_keeps _ _ _ _ c.prepare.result (c.prepare.ensures.ok clean) (c.prepare.ensures.err clean) }
