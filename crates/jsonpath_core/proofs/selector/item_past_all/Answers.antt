use Rattle.std.proofs.Common.{arith}
use Rattle.json_subset.specs.Documents.{form, part}
use Rattle.jsonpath_core.proofs.Children.{past_children}
use Rattle.jsonpath_core.proofs.selector.item_past_all.Goals as goal

pub returns-clause-past : goal.returns-clause-past
returns-clause-past c = λ place le. past_children (form (part c.args.doc.now c.args.node)) place (omega (arith, c.child_count-count.type_inv, c.child_count-count.ensures, le))
