use Rattle.std.proofs.Common.{◌≡◌, length}
use Rattle.json_subset.specs.Scan.{after_digits}
use Rattle.json_subset.proofs.scan.after_digits.Given as goal

abbrev pub invariant-loop-rest : goal.invariant-loop-rest
invariant-loop-rest l = after_digits l.rest ≡ after_digits l.bytes

abbrev pub decreases-loop-rest : goal.decreases-loop-rest
decreases-loop-rest l = length l.rest
