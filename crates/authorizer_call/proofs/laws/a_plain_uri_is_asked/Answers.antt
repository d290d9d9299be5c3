use Rattle.authorizer_call.proofs.Plain.{asked_where_plain}
use Rattle.authorizer_call.proofs.laws.a_plain_uri_is_asked.Goals as goal

pub returns : goal.returns
returns c = asked_where_plain
