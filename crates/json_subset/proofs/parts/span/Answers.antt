use Rattle.json_subset.proofs.parts.span.Goals as goal

pub range-requires-clause-start_boundary : goal.range-requires-clause-start_boundary
range-requires-clause-start_boundary c = λ h. c.node_at-node.ensures.sound.front

pub range-requires-clause-end_boundary : goal.range-requires-clause-end_boundary
range-requires-clause-end_boundary c = c.node_at-node.ensures.sound.back
