use Rattle.std.proofs.Common.{ap, ◌∙◌}
use Rattle.json_subset.specs.Documents.{form, part}
use Rattle.policy_core.proofs.Listed.{entry_count, entries_counted}
use Rattle.policy_core.proofs.children.entry_count.Goals as goal

pub returns-in-Object : goal.returns-in-Object
returns-in-Object c = ap entry_count c.in-Object.ensures ∙ entries_counted (form (part c.args.doc.now c.args.node))
