use Rattle.std.proofs.Common.{◌≡◌, ◌+◌, drop}
use Rattle.gateway_vars.specs.Changes.{place_of}
use Rattle.gateway_vars.proofs.changes.place.Given as goal

abbrev pub invariant-loop-pair : goal.invariant-loop-pair
invariant-loop-pair l = (l.i ≡ l.pair-index) × (place_of l.pairs l.name ≡ l.i + place_of (drop l.pair-index l.pairs) l.name)
