use Rattle.kept_rows.proofs.Connected as connected
use Rattle.kept_rows.proofs.laws.schema_is_made.Goals as goal

pub returns : goal.returns
returns c = connected.schema_is_made
