use Rattle.std.proofs.Common.{◌∙◌}
use Rattle.json_subset.specs.Documents.{form, part}
use Rattle.policy_core.proofs.Listed.{entry_there}
use Rattle.policy_core.proofs.children.entry.Goals as goal

pub returns-in-Some : goal.returns-in-Some
returns-in-Some c = (c.in-Some.ensures.0, entry_there (form (part c.args.doc.now c.args.node)) c.args.i ∙ c.in-Some.ensures.1)

pub returns-in-None : goal.returns-in-None
returns-in-None c = entry_there (form (part c.args.doc.now c.args.node)) c.args.i ∙ c.in-None.ensures
