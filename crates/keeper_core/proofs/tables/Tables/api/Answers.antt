use Rattle.std.proofs.Common.{rules}
use Rattle.keeper_core.specs.Lists.{is_api, api_behind}
use Rattle.keeper_core.specs.Places.{IsPlace}
use Rattle.keeper_core.proofs.Putting.{found_at}
use Rattle.keeper_core.proofs.tables.Tables.api.Goals as goal

pub returns : goal.returns
returns c =
    let is : IsPlace (is_api c.args.api.now) (api_behind c.args.api.now) c.args.self.now.lists.apis c.place_of_api.result = search rules in
    let found = found_at (is_api c.args.api.now) (api_behind c.args.api.now) c.args.self.now.lists.apis c.place_of_api.result is in
    search rules
