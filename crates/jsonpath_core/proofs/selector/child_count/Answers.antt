use Rattle.std.proofs.Common.{ap, ◌∙◌}
use Rattle.json_subset.specs.Documents.{form, part}
use Rattle.jsonpath_core.proofs.Children.{child_count, counted}
use Rattle.jsonpath_core.proofs.selector.child_count.Goals as goal

pub returns-in-List : goal.returns-in-List
returns-in-List c = ap child_count c.in-List.ensures ∙ counted (form (part c.args.doc.now c.args.node))

pub returns-in-Object : goal.returns-in-Object
returns-in-Object c = ap child_count c.in-Object.ensures ∙ counted (form (part c.args.doc.now c.args.node))
