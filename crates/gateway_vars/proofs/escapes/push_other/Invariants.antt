use Rattle.std.proofs.Common.{◌≡◌, ◌++◌, true, flat_map, take}
use Rattle.std.specs.String.{string_bytes}
use Rattle.gateway_vars.specs.Escapes.{unit_escape}
use Rattle.gateway_vars.proofs.escapes.push_other.Given as goal

abbrev pub invariant-loop-unit : goal.invariant-loop-unit
invariant-loop-unit l = string_bytes l.out ≡ string_bytes l.initial.out ++ flat_map (unit_escape true) (take l.unit-index l.unit-items)
