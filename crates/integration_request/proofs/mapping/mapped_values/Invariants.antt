use Rattle.std.proofs.Common.{◌≡◌, ◌++◌, drop}
use Rattle.integration_request.specs.Mapping.{mapped_values}
use Rattle.integration_request.proofs.mapping.mapped_values.Given as goal

-- what is mapped so far, and by the mappings that are left, is what all of them map
abbrev pub invariant-loop-mapping : goal.invariant-loop-mapping
invariant-loop-mapping l = l.made.items ++ mapped_values l.resource l.asking (drop l.mapping-index l.mappings) ≡ mapped_values l.resource l.asking l.mappings
