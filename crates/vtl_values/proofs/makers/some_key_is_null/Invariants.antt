use Rattle.std.proofs.Common.{◌≡◌, drop}
use Rattle.vtl_values.specs.Making.{has_null_key}
use Rattle.vtl_values.proofs.makers.some_key_is_null.Given as goal

abbrev pub invariant-loop-pair : goal.invariant-loop-pair
invariant-loop-pair l = has_null_key l.pairs ≡ has_null_key (drop l.pair-index l.pairs)
