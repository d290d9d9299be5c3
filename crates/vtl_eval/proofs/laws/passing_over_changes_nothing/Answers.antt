use Rattle.vtl_eval.proofs.Passing.{call_idle}
use Rattle.vtl_eval.proofs.laws.passing_over_changes_nothing.Goals as goal

pub returns : goal.returns
returns c = λ ms n x e es budget m s. call_idle budget m ms n x e es s
