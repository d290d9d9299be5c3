use Rattle.std.proofs.Common.{◌≡◌}
use Rattle.vtl_eval.proofs.eval.listed_value.Given as goal

abbrev pub invariant-loop-value : goal.invariant-loop-value
invariant-loop-value l = l.maker ≡ l.yielded
