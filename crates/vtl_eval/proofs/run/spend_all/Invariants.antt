use Rattle.std.proofs.Common.{◌≡◌, length}
use Rattle.vtl_eval.specs.Evaluated.{charge}
use Rattle.vtl_eval.specs.Views.{scene_of}
use Rattle.vtl_eval.proofs.run.spend_all.Given as goal

abbrev pub invariant-loop-rest : goal.invariant-loop-rest
invariant-loop-rest l = charge l.budget l.rest (scene_of l.run) ≡ charge l.budget l.links (scene_of l.fn.run)

abbrev pub decreases-loop-rest : goal.decreases-loop-rest
decreases-loop-rest l = length l.rest
