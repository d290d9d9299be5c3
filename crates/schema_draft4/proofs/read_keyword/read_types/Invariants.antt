use Rattle.std.proofs.Common.{◌≡◌, [], drop, map, Some}
use Rattle.std.specs.String.{string_bytes}
use Rattle.schema_draft4.specs.Reading.{types_named}
use Rattle.schema_draft4.proofs.read_keyword.read_types.Given as goal

abbrev pub invariant-loop-name : goal.invariant-loop-name
invariant-loop-name l = types_named (Some l.types.items) (map string_bytes (drop l.name-index l.names)) ≡ types_named (Some []) (map string_bytes l.names)
