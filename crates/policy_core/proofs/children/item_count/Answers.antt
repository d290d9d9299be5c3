use Rattle.std.proofs.Common.{ap, ◌∙◌}
use Rattle.json_subset.specs.Documents.{form, part}
use Rattle.policy_core.proofs.Listed.{item_count, items_counted}
use Rattle.policy_core.proofs.children.item_count.Goals as goal

pub returns-in-List : goal.returns-in-List
returns-in-List c = ap item_count c.in-List.ensures ∙ items_counted (form (part c.args.doc.now c.args.node))
