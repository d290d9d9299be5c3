use Rattle.integration_flow.proofs.Chosen.{chooses_the_first}
use Rattle.integration_flow.proofs.laws.the_first_that_matches_is_chosen.Goals as goal

pub returns : goal.returns
returns c = chooses_the_first
