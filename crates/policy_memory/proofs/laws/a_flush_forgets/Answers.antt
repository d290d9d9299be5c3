use Rattle.policy_memory.proofs.Lawful.{flush-forgets}
use Rattle.policy_memory.proofs.laws.a_flush_forgets.Goals as goal

pub returns : goal.returns
returns c = flush-forgets
