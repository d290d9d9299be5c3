use Rattle.std.proofs.Common.{sym, ◌∙◌}
use Rattle.method_checks.proofs.Parted.{without_last}
use Rattle.method_checks.proofs.segments.without_last_empty.Goals as goal

pub returns-then-ends_empty : goal.returns-then-ends_empty
returns-then-ends_empty c = without_last c.args.parts.now (sym c.ends_empty.ensures ∙ c.if-ends_empty.true)
