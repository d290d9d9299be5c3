use Rattle.std.proofs.Common.{◌≡◌, ◌++◌, drop}
use Rattle.std.specs.String.{string_bytes}
use Rattle.vtl_eval.specs.Evaluated.{all_printed}
use Rattle.vtl_eval.proofs.pieces.join.Given as goal

abbrev pub invariant-loop-value : goal.invariant-loop-value
invariant-loop-value l = string_bytes l.text ++ all_printed (drop l.value-index l.values) ≡ all_printed l.values
