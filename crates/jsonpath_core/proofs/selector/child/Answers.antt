use Rattle.json_subset.specs.Documents.{form, part}
use Rattle.jsonpath_core.proofs.Children.{child_item, child_value, child_none}
use Rattle.jsonpath_core.proofs.selector.child.Goals as goal

pub returns-in-Some : goal.returns-in-Some
returns-in-Some c = (c.in-Some.ensures.0, child_item (form (part c.args.doc.now c.args.node)) c.args.i _ c.in-Some.ensures.1)

pub returns-in-Some-entry : goal.returns-in-Some-entry
returns-in-Some-entry c = (c.in-Some-entry.ensures.0, child_value (form (part c.args.doc.now c.args.node)) c.args.i _ _ c.in-Some-entry.ensures.1)

pub returns-in-None-entry : goal.returns-in-None-entry
returns-in-None-entry c = child_none (form (part c.args.doc.now c.args.node)) c.args.i c.in-None.ensures c.in-None-entry.ensures
