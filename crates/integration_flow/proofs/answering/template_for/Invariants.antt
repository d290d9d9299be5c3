use Rattle.std.proofs.Common.{◌≡◌, drop}
use Rattle.resource_tree.specs.Parameters.{value_at}
use Rattle.integration_flow.proofs.answering.template_for.Given as goal

-- what stands of the templates that are left stands of all
abbrev pub invariant-loop-template : goal.invariant-loop-template
invariant-loop-template l = value_at (drop l.template-index l.templates) l.media ≡ value_at l.templates l.media
