use Rattle.std.proofs.Common.{◌≡◌, map, take}
use Rattle.json_subset.specs.Documents.{part}
use Rattle.gateway_vars.specs.Documents.{value_of}
use Rattle.gateway_vars.proofs.payload.values_of.Given as goal

abbrev pub invariant-loop-node : goal.invariant-loop-node
invariant-loop-node l = l.values ≡ map (λ k. value_of (part l.doc k)) (take l.node-index l.nodes)
