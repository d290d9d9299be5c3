use Rattle.remembered_policies.proofs.Recalling.{remembers}
use Rattle.remembered_policies.proofs.laws.the_last_lesson_is_remembered.Goals as goal

pub returns : goal.returns
returns c = remembers
