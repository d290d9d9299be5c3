use Rattle.std.proofs.Common.{rules}
use Rattle.keeper_core.specs.Lists.{is_plan, plan_behind}
use Rattle.keeper_core.specs.Places.{IsPlace}
use Rattle.keeper_core.proofs.Putting.{found_at}
use Rattle.keeper_core.proofs.tables.Tables.plan.Goals as goal

pub returns : goal.returns
returns c =
    let is : IsPlace (is_plan c.args.plan.now) (plan_behind c.args.plan.now) c.args.self.now.lists.plans c.place_of_plan.result = search rules in
    let found = found_at (is_plan c.args.plan.now) (plan_behind c.args.plan.now) c.args.self.now.lists.plans c.place_of_plan.result is in
    search rules
