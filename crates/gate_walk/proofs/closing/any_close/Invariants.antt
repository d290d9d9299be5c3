use Rattle.std.proofs.Common.{◌≡◌, ℕ, List, length, map}
use Rattle.std.specs.Borrow.{Bor}
use Rattle.std.specs.List.{list_any}
use Rattle.gate_walk.specs.Closing.{is_close}
use Rattle.gate_walk.proofs.closing.any_close.Given as goal

abbrev pub invariant-loop-rest : goal.invariant-loop-rest
invariant-loop-rest l = list_any is_close (map (λ (part : Bor (List ℕ)). part.now) l.elements) ≡ list_any is_close (map (λ (part : Bor (List ℕ)). part.now) l.rest)

abbrev pub decreases-loop-rest : goal.decreases-loop-rest
decreases-loop-rest l = length l.rest
