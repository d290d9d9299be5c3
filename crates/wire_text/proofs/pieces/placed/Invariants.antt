use Rattle.std.proofs.Common.{◌≡◌, drop}
use Rattle.wire_text.specs.Destinations.{placed}
use Rattle.wire_text.proofs.pieces.placed.Given as goal

-- what is placed by the values that are left is placed by all
abbrev pub invariant-loop-value : goal.invariant-loop-value
invariant-loop-value l = placed (drop l.value-index l.values) l.name ≡ placed l.values l.name
