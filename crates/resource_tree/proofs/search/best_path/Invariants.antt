use Rattle.std.proofs.Common.{◌-◌, length}
use Rattle.resource_tree.proofs.Sought.{IsSought}
use Rattle.resource_tree.proofs.search.best_path.Given as goal

abbrev pub invariant-loop-at : goal.invariant-loop-at
invariant-loop-at l = IsSought l.paths l.nodes l.segments l.at

abbrev pub decreases-loop-at : goal.decreases-loop-at
decreases-loop-at l = length l.nodes - l.at
