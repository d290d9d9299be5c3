use Rattle.authorizer_call.proofs.Causes.{told_by_cause}
use Rattle.authorizer_call.proofs.laws.an_exchange_is_told_by_its_cause.Goals as goal

pub returns : goal.returns
returns c = told_by_cause
