use Rattle.method_checks.proofs.Least.{always_tells}
use Rattle.method_checks.proofs.laws.the_best_path_is_found.Goals as goal

pub returns : goal.returns
returns c = always_tells
