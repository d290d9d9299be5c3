use Rattle.std.proofs.Common.{sym}
use Rattle.schema_rules.proofs.Ordered.{ordered}
use Rattle.schema_draft4.proofs.schema.Schema.ordered.Goals as goal

pub returns : goal.returns
returns c = rw (sym c.self.view_is) (ordered _ _ c.self.invariant.0)
