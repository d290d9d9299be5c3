use Rattle.std.proofs.Common.{◌≡◌, length}
use Rattle.vtl_eval.specs.Roots.{same_path}
use Rattle.gateway_vars.proofs.table.same_path.Given as goal

abbrev pub invariant-loop-name : goal.invariant-loop-name
invariant-loop-name l = same_path l.path l.other ≡ same_path l.left l.right

abbrev pub decreases-loop-name : goal.decreases-loop-name
decreases-loop-name l = length l.left
