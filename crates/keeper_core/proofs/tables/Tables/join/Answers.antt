use Rattle.std.proofs.Common.{rules}
use Rattle.keeper_core.specs.Lists.{is_join, join_behind}
use Rattle.keeper_core.specs.Places.{IsPlace}
use Rattle.keeper_core.proofs.Putting.{found_at}
use Rattle.keeper_core.proofs.tables.Tables.join.Goals as goal

pub returns : goal.returns
returns c =
    let is : IsPlace (is_join c.args.plan.now c.args.key.now) (join_behind c.args.plan.now c.args.key.now) c.args.self.now.lists.joins c.place_of_join.result = search rules in
    let found = found_at (is_join c.args.plan.now c.args.key.now) (join_behind c.args.plan.now c.args.key.now) c.args.self.now.lists.joins c.place_of_join.result is in
    search rules
