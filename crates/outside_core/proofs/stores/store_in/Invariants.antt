use Rattle.std.proofs.Common.{◌≡◌, length}
use Rattle.outside_core.specs.Held.{found}
use Rattle.outside_core.proofs.stores.store_in.Given as goal

abbrev pub invariant-loop-rest : goal.invariant-loop-rest
invariant-loop-rest l = found l.name l.rest ≡ found l.name l.stores

abbrev pub decreases-loop-rest : goal.decreases-loop-rest
decreases-loop-rest l = length l.rest
