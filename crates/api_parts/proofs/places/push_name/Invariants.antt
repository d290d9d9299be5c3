use Rattle.std.proofs.Common.{◌≡◌, ◌++◌}
use Rattle.std.specs.Prelude.{string_bytes}
use Rattle.std.specs.List.{flat_map}
use Rattle.api_parts.specs.Places.{pointer_char}
use Rattle.api_parts.proofs.places.push_name.Given as goal

-- the names' characters so far are written
abbrev pub invariant-loop-c : goal.invariant-loop-c
invariant-loop-c l = string_bytes l.out ≡ string_bytes l.initial.out ++ flat_map pointer_char l.yielded
