use Rattle.std.proofs.Common.{◌≡◌, ◌++◌, ◌∷◌, flat_map, take}
use Rattle.std.specs.String.{string_bytes}
use Rattle.integration_flow.proofs.bodies.push_parted.Given as goal

abbrev pub invariant-loop-other : goal.invariant-loop-other
invariant-loop-other l = string_bytes l.made ≡ string_bytes l.initial.made ++ flat_map (λ u. 44 ∷ u) (take l.other-index l.others)
