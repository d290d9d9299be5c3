use Rattle.std.proofs.Common.{rules}
use Rattle.keeper_core.specs.Lists.{is_stage, stage_behind}
use Rattle.keeper_core.specs.Places.{IsPlace}
use Rattle.keeper_core.proofs.Putting.{found_at}
use Rattle.keeper_core.proofs.tables.Tables.stage.Goals as goal

pub returns : goal.returns
returns c =
    let is : IsPlace (is_stage c.args.api.now c.args.stage.now) (stage_behind c.args.api.now c.args.stage.now) c.args.self.now.lists.stages c.place_of_stage.result = search rules in
    let found = found_at (is_stage c.args.api.now c.args.stage.now) (stage_behind c.args.api.now c.args.stage.now) c.args.self.now.lists.stages c.place_of_stage.result is in
    search rules
