use Rattle.std.proofs.Common.{rules, arith, ◌≡◌, ◌∙◌, ap, sym, subst, Some, None, List, ℕ}
use Rattle.keeper_core.specs.Lists.{join_row, plan_row}
use Rattle.usage_plans.specs.Rows.{tally_in, terms_in}
use Rattle.usage_plans.specs.Tallies.{IsTally}
use Rattle.book_core.proofs.plan_changes.show_usage.Goals as goal

pub tally_of-requires : goal.tally_of-requires
tally_of-requires c =
    let lists = c.args.tables.now.lists in
    let plan = c.args.plan.now in
    let key = c.args.key.now in
    let of = c.in-Some-Some.of.now in
    let row = c.in-Some-Some.row.now in
    let found_plan : plan_row lists plan ≡ Some of = search rules in
    let found_row : join_row lists plan key ≡ Some row = search rules in
    let fit = c.requires.fits.joins plan key of row found_plan found_row in
    let n = fit.number in
    omega (arith, n)

pub terms_of-requires : goal.terms_of-requires
terms_of-requires c =
    let lists = c.args.tables.now.lists in
    let plan = c.args.plan.now in
    let key = c.args.key.now in
    let of = c.in-Some-Some.of.now in
    let row = c.in-Some-Some.row.now in
    let found_plan : plan_row lists plan ≡ Some of = search rules in
    let found_row : join_row lists plan key ≡ Some row = search rules in
    (c.requires.fits.plans plan of found_plan).columns

pub usage-requires-clause-fits : goal.usage-requires-clause-fits
usage-requires-clause-fits c =
    let lists = c.args.tables.now.lists in
    let plan = c.args.plan.now in
    let key = c.args.key.now in
    let of = c.in-Some-Some.of.now in
    let row = c.in-Some-Some.row.now in
    let found_plan : plan_row lists plan ≡ Some of = search rules in
    let found_row : join_row lists plan key ≡ Some row = search rules in
    subst (λ terms. IsTally terms c.tally_of.result c.args.t) (sym c.terms_of.ensures.value)
    (subst (λ tally. IsTally (terms_in of) tally c.args.t) (sym c.tally_of.ensures) (c.requires.fits.joins plan key of row found_plan found_row).tally)
