use Rattle.std.proofs.Common.{◌≡◌, flat_map}
use Rattle.std.specs.String.{string_bytes}
use Rattle.gateway_vars.specs.Escapes.{script_char}
use Rattle.gateway_vars.proofs.escapes.escape_java_script.Given as goal

abbrev pub invariant-loop-c : goal.invariant-loop-c
invariant-loop-c l = string_bytes l.made ≡ flat_map script_char l.yielded
