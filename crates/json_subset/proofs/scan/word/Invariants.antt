use Rattle.std.proofs.Common.{◌≡◌, length}
use Rattle.json_subset.specs.Scan.{word}
use Rattle.json_subset.proofs.scan.word.Given as goal

abbrev pub invariant-loop-left : goal.invariant-loop-left
invariant-loop-left l = word l.n l.left l.rest ≡ word l.n l.word l.bytes

abbrev pub decreases-loop-left : goal.decreases-loop-left
decreases-loop-left l = length l.left
