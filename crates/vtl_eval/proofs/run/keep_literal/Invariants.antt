use Rattle.std.proofs.Common.{◌≡◌, ◌+◌, ◌-◌, length}
use Rattle.vtl_eval.specs.Views.{scene_of}
use Rattle.vtl_eval.proofs.run.keep_literal.Given as goal

abbrev pub invariant-loop-run : goal.invariant-loop-run
invariant-loop-run l = scene_of l.run ≡ scene_of l.fn.run

abbrev pub decreases-loop-run : goal.decreases-loop-run
decreases-loop-run l = l.k + 1 - length l.run.literals.items
