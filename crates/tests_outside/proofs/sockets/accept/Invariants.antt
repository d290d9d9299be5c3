use Rattle.std.proofs.Common.{◌≡◌, false}
use Rattle.tests_outside.proofs.sockets.accept.Given as goal

abbrev pub invariant-loop : goal.invariant-loop
invariant-loop g l = l.port.out ≡ false
