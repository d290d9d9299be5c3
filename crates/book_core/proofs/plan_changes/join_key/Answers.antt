use Rattle.std.proofs.Common.{rules, ◌≡◌, Some}
use Rattle.keeper_core.specs.Lists.{plan_row}
use Rattle.book_core.proofs.plan_changes.join_key.Goals as goal

pub joined_row-requires : goal.joined_row-requires
joined_row-requires c =
    let found : plan_row c.args.tables.now.lists c.args.plan.now ≡ Some c.in-Some-Some.of.now = search rules in
    record { fits = c.requires.fits c.args.plan.now c.in-Some-Some.of.now found }
