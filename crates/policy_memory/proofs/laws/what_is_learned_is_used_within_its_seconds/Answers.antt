use Rattle.policy_memory.proofs.Lawful.{used-within}
use Rattle.policy_memory.proofs.laws.what_is_learned_is_used_within_its_seconds.Goals as goal

pub returns : goal.returns
returns c = used-within
