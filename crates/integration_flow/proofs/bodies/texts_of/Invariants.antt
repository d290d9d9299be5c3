use Rattle.std.proofs.Common.{◌≡◌, map, take}
use Rattle.json_subset.specs.Documents.{part}
use Rattle.gateway_vars.specs.Documents.{node_text}
use Rattle.integration_flow.proofs.bodies.texts_of.Given as goal

abbrev pub invariant-loop-node : goal.invariant-loop-node
invariant-loop-node l = l.texts.items ≡ map (λ k. node_text l.doc.text (part l.doc k)) (take l.node-index l.nodes)
