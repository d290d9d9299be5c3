use Rattle.std.proofs.Common.{◌≡◌, length}
use Rattle.gate_walk.specs.Closing.{without_front_blanks}
use Rattle.gate_walk.proofs.closing.trim_front.Given as goal

abbrev pub invariant-loop-rest : goal.invariant-loop-rest
invariant-loop-rest l = without_front_blanks l.bytes ≡ without_front_blanks l.rest

abbrev pub decreases-loop-rest : goal.decreases-loop-rest
decreases-loop-rest l = length l.rest
