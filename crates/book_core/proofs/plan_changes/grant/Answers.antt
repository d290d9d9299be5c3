use Rattle.std.proofs.Common.{rules, ◌≡◌, ◌∙◌, ap, subst, sym, Some}
use Rattle.keeper_core.specs.Joins.{join_at}
use Rattle.keeper_core.specs.Lists.{join_row, plan_row}
use Rattle.book_rules.specs.PlanCommands.{grant_by}
use Rattle.book_core.specs.Changes.{IsPrepared}
use Rattle.book_core.proofs.plan_changes.grant.Goals as goal

pub granted-requires-clause-plan : goal.granted-requires-clause-plan
granted-requires-clause-plan c =
    let lists = c.args.tables.now.lists in
    let found_plan : plan_row lists c.args.plan.now ≡ Some c.in-Some-Some.of.now = search rules in
    c.requires.fits.plans c.args.plan.now c.in-Some-Some.of.now found_plan

pub granted-requires-clause-join : goal.granted-requires-clause-join
granted-requires-clause-join c =
    let lists = c.args.tables.now.lists in
    let found_plan : plan_row lists c.args.plan.now ≡ Some c.in-Some-Some.of.now = search rules in
    let found_row : join_row lists c.args.plan.now c.args.key.now ≡ Some (join_at lists c.in-Some-Some.at) = search rules in
    c.requires.fits.joins c.args.plan.now c.args.key.now c.in-Some-Some.of.now (join_at lists c.in-Some-Some.at) found_plan found_row

pub returns-clause-prepared : goal.returns-clause-prepared
returns-clause-prepared c =
    let lists = c.args.tables.now.lists in
    let plan = c.args.plan.now in
    let of = c.in-Some-Some.of.now in
    let row = join_at lists c.in-Some-Some.at in
    let found_plan : plan_row lists plan ≡ Some of = search rules in
    let found_row : join_row lists plan c.args.key.now ≡ Some row = search rules in
    subst (λ o. IsPrepared lists o c.granted.result)
    (sym (ap (λ r. grant_by r (plan_row lists plan) c.args.amount c.args.t) found_row ∙ ap (λ p. grant_by (Some row) p c.args.amount c.args.t) found_plan)) c.granted.ensures.prepared
