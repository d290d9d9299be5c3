use Rattle.std.proofs.Common.{rules, ◌≡◌, ◌∙◌, ap, sym, Ok}
use Rattle.keeper_core.specs.Joins.{join_at, with_numbers}
use Rattle.keeper_core.specs.declared.rows.JoinRow.{JoinRow}
use Rattle.keeper_core.specs.declared.rows.Row.TheVariants.{Join}
use Rattle.usage_plans.specs.Rows.{row_with, tally_in, terms_in}
use Rattle.usage_plans.specs.Tallies.{grant_of}
use Rattle.book_rules.specs.Outcomes.{writes}
use Rattle.book_rules.specs.PlanCommands.{granted}
use Rattle.book_rules.specs.declared.replies.Reply.TheVariants.{Done}
use Rattle.book_core.proofs.plan_changes.granted.Goals as goal

pub returns-in-Ok-clause-prepared : goal.returns-in-Ok-clause-prepared
returns-in-Ok-clause-prepared c =
    let row = join_at c.args.tables.now.lists c.args.at in
    let tally = c.in-Ok.tally in
    let made : grant_of (terms_in c.args.of.now) (tally_in row) c.args.amount c.args.t ≡ Ok tally = search rules in
    let written : with_numbers row c.numbers_of.result ≡ row_with row tally = c.numbers_of.ensures row in (
      ap (granted row) made ∙ sym (ap (λ (r : JoinRow). writes (Join r) Done) written),
      c.requires.inside,
    )
