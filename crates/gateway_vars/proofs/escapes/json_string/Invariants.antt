use Rattle.std.proofs.Common.{◌≡◌, ◌∷◌, flat_map}
use Rattle.std.specs.String.{string_bytes}
use Rattle.gateway_vars.specs.Escapes.{json_char}
use Rattle.gateway_vars.proofs.escapes.json_string.Given as goal

abbrev pub invariant-loop-c : goal.invariant-loop-c
invariant-loop-c l = string_bytes l.made ≡ 34 ∷ flat_map json_char l.yielded
