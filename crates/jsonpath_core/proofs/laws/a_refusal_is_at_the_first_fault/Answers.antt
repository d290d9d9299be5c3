use Rattle.jsonpath_core.proofs.Stuck.{path_stuck, path_refused}
use Rattle.jsonpath_core.proofs.laws.a_refusal_is_at_the_first_fault.Goals as goal

pub returns : goal.returns
returns c = λ text at. (path_stuck text at, path_refused text at)
