use Rattle.std.proofs.Common.{◌≡◌, length}
use Rattle.http_framing.specs.Targets.{after_blank}
use Rattle.http_framing.proofs.target.skip_blank.Given as goal

abbrev pub invariant-loop-left : goal.invariant-loop-left
invariant-loop-left l = after_blank l.left ≡ after_blank l.buf

abbrev pub decreases-loop-left : goal.decreases-loop-left
decreases-loop-left l = length l.left
