use Rattle.integration_flow.proofs.Chosen.{falls_to_the_default}
use Rattle.integration_flow.proofs.laws.the_default_is_chosen_where_none_matches.Goals as goal

pub returns : goal.returns
returns c = falls_to_the_default
