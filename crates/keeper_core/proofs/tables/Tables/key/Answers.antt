use Rattle.std.proofs.Common.{rules}
use Rattle.keeper_core.specs.Lists.{is_key, key_behind}
use Rattle.keeper_core.specs.Places.{IsPlace}
use Rattle.keeper_core.proofs.Putting.{found_at}
use Rattle.keeper_core.proofs.tables.Tables.key.Goals as goal

pub returns : goal.returns
returns c =
    let is : IsPlace (is_key c.args.key.now) (key_behind c.args.key.now) c.args.self.now.lists.keys c.place_of_key.result = search rules in
    let found = found_at (is_key c.args.key.now) (key_behind c.args.key.now) c.args.self.now.lists.keys c.place_of_key.result is in
    search rules
