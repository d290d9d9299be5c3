use Rattle.policy_memory.proofs.Lawful.{oldest-goes-first}
use Rattle.policy_memory.proofs.laws.the_oldest_name_goes_first.Goals as goal

pub returns : goal.returns
returns c = oldest-goes-first
