use Rattle.gateway_cli.proofs.OneOutcome.{one_outcome}
use Rattle.gateway_cli.proofs.laws.there_is_one_outcome.Goals as goal

pub returns : goal.returns
returns c = one_outcome c.a_connection_comes_to_one_thing.ensures
