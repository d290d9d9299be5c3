use Rattle.policy_core.proofs.Formed.{reply_is, reply_has_none}
use Rattle.policy_core.proofs.laws.a_reply_without_a_fault_has_its_form.Goals as goal

pub returns : goal.returns
returns c = λ t. (reply_is t, reply_has_none t)
