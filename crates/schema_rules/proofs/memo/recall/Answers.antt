use Rattle.std.proofs.Common.{◌∙◌}
use Rattle.schema_rules.proofs.Known.{recalled, recalled_part}
use Rattle.schema_rules.proofs.memo.recall.Goals as goal

pub returns-clause-says : goal.returns-clause-says
returns-clause-says c = recalled c.args.case.now c.args.memo.now c.args.value c.args.schema c.copied.result c.requires (c.copied.ensures ∙ c.get.ensures.value)

pub returns-clause-part : goal.returns-clause-part
returns-clause-part c = recalled_part c.args.case.now c.args.memo.now c.args.value c.args.schema c.copied.result c.requires (c.copied.ensures ∙ c.get.ensures.value)
