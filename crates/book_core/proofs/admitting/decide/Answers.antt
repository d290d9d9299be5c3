use Rattle.std.proofs.Common.{rules, ◌≡◌, ◌∙◌, ap, sym, subst}
use Rattle.keeper_core.specs.Joins.{join_at, with_numbers}
use Rattle.keeper_core.specs.declared.rows.JoinRow.{JoinRow}
use Rattle.keeper_core.specs.declared.rows.Row.TheVariants.{Join}
use Rattle.usage_plans.specs.Rows.{row_with, tally_in, terms_in}
use Rattle.usage_plans.specs.Tallies.{admission_of}
use Rattle.usage_plans.specs.declared.tally.Admission.TheVariants.{Admitted}
use Rattle.book_rules.specs.Admissions.{decided}
use Rattle.book_rules.specs.Outcomes.{writes}
use Rattle.book_rules.specs.declared.replies.Reply.TheVariants as reply
use Rattle.book_core.proofs.admitting.decide.Goals as goal

pub returns-in-Admitted-clause-prepared : goal.returns-in-Admitted-clause-prepared
returns-in-Admitted-clause-prepared c =
    let key = c.args.key.now in
    let plan = c.args.plan.now in
    let row = join_at c.args.tables.now.lists c.args.at in
    let tally = c.in-Admitted.tally in
    let made : admission_of (terms_in plan) (tally_in row) c.args.t ≡ Admitted tally = search rules in
    let written : with_numbers row c.numbers_of.result ≡ row_with row tally = c.numbers_of.ensures row in
    let named : c.name_of.result ≡ key = search rules in
    let of : c.name_of-in-Admitted.result ≡ plan.plan = search rules in (
      ap (decided key plan row) made
          ∙ sym (ap (λ (r : JoinRow). writes (Join r) (reply.Admitted c.name_of.result c.name_of-in-Admitted.result)) written
          ∙ ap (λ k. writes (Join (row_with row tally)) (reply.Admitted k c.name_of-in-Admitted.result)) named
          ∙ ap (λ p. writes (Join (row_with row tally)) (reply.Admitted key p)) of),
      c.requires.inside,
    )
