use Rattle.policy_memory.proofs.Lawful.{flush-forgets-no-other}
use Rattle.policy_memory.proofs.laws.a_flush_forgets_no_other_stage.Goals as goal

pub returns : goal.returns
returns c = flush-forgets-no-other
