use Rattle.std.proofs.Common.{◌≡◌, ◌++◌, drop}
use Rattle.integration_request.specs.Mapping.{mapped_pairs}
use Rattle.integration_request.proofs.mapping.mapped_pairs.Given as goal

-- what is mapped so far, and by the mappings that are left, is what all of them map
abbrev pub invariant-loop-mapping : goal.invariant-loop-mapping
invariant-loop-mapping l = l.made.items ++ mapped_pairs l.place l.asking (drop l.mapping-index l.mappings) ≡ mapped_pairs l.place l.asking l.mappings
