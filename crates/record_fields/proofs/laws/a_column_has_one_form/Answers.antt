use Rattle.record_fields.proofs.ReadBack.{one_form}
use Rattle.record_fields.proofs.laws.a_column_has_one_form.Goals as goal

pub returns : goal.returns
returns c = λ text pairs is. one_form text pairs is
