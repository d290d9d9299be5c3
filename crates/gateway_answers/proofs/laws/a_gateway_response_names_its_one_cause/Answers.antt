use Rattle.gateway_answers.proofs.Causes.{names_one_cause}
use Rattle.gateway_answers.proofs.laws.a_gateway_response_names_its_one_cause.Goals as goal

pub returns : goal.returns
returns c = names_one_cause
