use Rattle.kept_rows.proofs.Connected.{read_back}
use Rattle.kept_rows.proofs.laws.written_rows_are_read_back.Goals as goal

pub returns : goal.returns
returns g c = read_back g.S.Store g.met.S.Store.ordered g.met.S.Alter.listed
