use Rattle.std.proofs.Common.{◌≡◌, All, length}
use Rattle.gateway_outside.specs.Stands.{IsFresh}
use Rattle.gateway_outside.proofs.listening.share_out.Given as goal

abbrev pub invariant-loop : goal.invariant-loop
invariant-loop g l = (length l.ports.items ≡ l.counter) × All IsFresh l.ports.items
