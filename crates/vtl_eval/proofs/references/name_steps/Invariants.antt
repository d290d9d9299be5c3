use Rattle.std.proofs.Common.{◌≡◌, map}
use Rattle.vtl_eval.specs.Roots.{name as name_step}
use Rattle.vtl_eval.specs.Views.{stepped_of}
use Rattle.vtl_eval.proofs.references.name_steps.Given as goal

abbrev pub invariant-loop-name : goal.invariant-loop-name
invariant-loop-name l = map stepped_of l.steps.items ≡ map name_step l.yielded
