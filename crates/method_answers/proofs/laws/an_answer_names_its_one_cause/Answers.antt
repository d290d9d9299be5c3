use Rattle.method_answers.proofs.Causes.{names_each}
use Rattle.method_answers.proofs.laws.an_answer_names_its_one_cause.Goals as goal

pub returns : goal.returns
returns c = names_each
