use Rattle.record_fields.proofs.ReadBack.{read_back}
use Rattle.record_fields.proofs.laws.columns_are_read_back.Goals as goal

pub returns : goal.returns
returns c = λ pairs each. read_back pairs each
