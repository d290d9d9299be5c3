use Rattle.method_checks.proofs.Routed.{hits_the_best}
use Rattle.method_checks.proofs.laws.the_best_resource_is_hit.Goals as goal

pub returns : goal.returns
returns c = hits_the_best
