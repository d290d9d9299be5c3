use Rattle.kept_rows.proofs.Told.{told}
use Rattle.kept_rows.proofs.laws.columns_tell_the_row.Goals as goal

pub returns : goal.returns
returns c = told
