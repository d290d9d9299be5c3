use Rattle.method_answers.proofs.Admitting.{tells_its_admission}
use Rattle.method_answers.proofs.laws.a_kind_of_admission_comes_of_one.Goals as goal

pub returns : goal.returns
returns c = tells_its_admission
