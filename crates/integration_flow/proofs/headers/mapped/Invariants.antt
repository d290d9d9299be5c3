use Rattle.std.proofs.Common.{◌≡◌, ◌++◌, drop}
use Rattle.gateway_vars.specs.Meanings.{response_held}
use Rattle.integration_flow.specs.Headers.{mapped}
use Rattle.integration_flow.proofs.headers.mapped.Given as goal

-- what is mapped so far, and by the mappings that are left, is what all of them map
abbrev pub invariant-loop-mapping : goal.invariant-loop-mapping
invariant-loop-mapping l = l.made.items ++ mapped (response_held l.roots) l.reply (drop l.mapping-index l.mappings) ≡ mapped (response_held l.roots) l.reply l.mappings
