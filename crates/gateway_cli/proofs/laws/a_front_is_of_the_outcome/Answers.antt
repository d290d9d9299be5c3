use Rattle.gateway_cli.proofs.OneOutcome.{fronts_of_the_outcome}
use Rattle.gateway_cli.proofs.laws.a_front_is_of_the_outcome.Goals as goal

pub returns : goal.returns
returns c = fronts_of_the_outcome c.a_connection_comes_to_one_thing.ensures
