use Rattle.policy_memory.proofs.Lawful.{places-left-out}
use Rattle.policy_memory.proofs.laws.places_may_be_left_out.Goals as goal

pub returns : goal.returns
returns c = places-left-out
