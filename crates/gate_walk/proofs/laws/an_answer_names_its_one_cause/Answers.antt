use Rattle.gate_walk.proofs.Causes.{names_its_cause}
use Rattle.gate_walk.proofs.laws.an_answer_names_its_one_cause.Goals as goal

pub returns : goal.returns
returns c = names_its_cause
