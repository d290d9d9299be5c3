use Rattle.authorizer_causes.proofs.Telling.{stands_behind_its_cause}
use Rattle.authorizer_causes.proofs.laws.an_authorizers_answer_stands_behind_its_cause.Goals as goal

pub returns : goal.returns
returns c = stands_behind_its_cause
