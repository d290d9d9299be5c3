use Rattle.resource_tree.proofs.Causes.{no_path, greedy_early, clashes_earlier}
use Rattle.resource_tree.proofs.laws.each_fault_has_its_cause.Goals as goal

pub returns : goal.returns
returns c = λ texts at within. (no_path texts at, greedy_early texts at, clashes_earlier texts at within)
