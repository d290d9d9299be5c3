use Rattle.std.proofs.Common.{◌≡◌, drop}
use Rattle.json_subset.specs.Numbers.{has_exponent}
use Rattle.json_subset.proofs.number.has_exponent.Given as goal

abbrev pub invariant-loop-b : goal.invariant-loop-b
invariant-loop-b l = has_exponent (drop l.b-index l.bytes) ≡ has_exponent l.bytes
