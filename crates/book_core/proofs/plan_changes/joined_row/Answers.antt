use Rattle.std.proofs.Common.{rules, ◌≡◌, ◌∙◌, ap}
use Rattle.keeper_core.specs.Joins.{with_numbers}
use Rattle.usage_plans.specs.Rows.{row_with, terms_in}
use Rattle.usage_plans.specs.Tallies.{joined_at}
use Rattle.usage_plans.specs.declared.tally.Tally.{Tally}
use Rattle.book_rules.specs.PlanCommands.{unused}
use Rattle.book_core.proofs.plan_changes.joined_row.Goals as goal

pub returns : goal.returns
returns c =
    let row = unused c.args.plan.now c.args.key.now in
    let made : c.joined.result ≡ joined_at (terms_in c.args.of.now) c.args.t = search rules in
    let before : c.in_ok-row.row ≡ row = search rules in
    c.write_numbers.ensures ∙ ap (λ r. with_numbers r c.numbers_of.result) before ∙ c.numbers_of.ensures row ∙ ap (row_with row) made
