use Rattle.std.proofs.Common.{◌≡◌, length, false}
use Rattle.http_framing.specs.Targets.{in_method}
use Rattle.http_framing.proofs.target.ends_method.Given as goal

abbrev pub invariant-loop-left : goal.invariant-loop-left
invariant-loop-left l = in_method l.some l.left ≡ in_method false l.buf

abbrev pub decreases-loop-left : goal.decreases-loop-left
decreases-loop-left l = length l.left
