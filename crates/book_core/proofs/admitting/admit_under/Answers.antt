use Rattle.std.proofs.Common.{rules, ◌≡◌, ◌∙◌, ap, subst, sym, Some}
use Rattle.keeper_core.specs.Joins.{join_at}
use Rattle.keeper_core.specs.Lists.{join_row, plan_row}
use Rattle.book_rules.specs.Admissions.{admitted_by}
use Rattle.book_core.specs.Changes.{IsPrepared}
use Rattle.book_core.proofs.admitting.admit_under.Goals as goal

pub decide-requires-clause-plan : goal.decide-requires-clause-plan
decide-requires-clause-plan c =
    let lists = c.args.tables.now.lists in
    let found_plan : plan_row lists c.args.plan.now ≡ Some c.in-Some-Some.of.now = search rules in
    c.requires.fits.plans c.args.plan.now c.in-Some-Some.of.now found_plan

pub decide-requires-clause-join : goal.decide-requires-clause-join
decide-requires-clause-join c =
    let lists = c.args.tables.now.lists in
    let found_plan : plan_row lists c.args.plan.now ≡ Some c.in-Some-Some.of.now = search rules in
    let found_row : join_row lists c.args.plan.now c.args.key.now ≡ Some (join_at lists c.in-Some-Some.at) = search rules in
    c.requires.fits.joins c.args.plan.now c.args.key.now c.in-Some-Some.of.now (join_at lists c.in-Some-Some.at) found_plan found_row

pub returns-clause-prepared : goal.returns-clause-prepared
returns-clause-prepared c =
    let lists = c.args.tables.now.lists in
    let plan = c.args.plan.now in
    let key = c.args.key.now in
    let of = c.in-Some-Some.of.now in
    let found_plan : plan_row lists plan ≡ Some of = search rules in
    let found_row : join_row lists plan key ≡ Some (join_at lists c.in-Some-Some.at) = search rules in
    subst (λ o. IsPrepared lists o c.decide.result)
    (sym (ap (λ p. admitted_by key p (join_row lists plan key) c.args.t) found_plan ∙ ap (λ r. admitted_by key (Some of) r c.args.t) found_row)) c.decide.ensures.prepared
