use Rattle.authorizer_call.proofs.Causes.{allowed}
use Rattle.authorizer_call.proofs.laws.a_call_is_allowed_by_an_allow_alone.Goals as goal

pub returns : goal.returns
returns c = allowed
