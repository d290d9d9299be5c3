use Rattle.std.proofs.Common.{◌≡◌, ◌+◌, ◌≤◌, ◌++◌, ◌∷◌, [], count_by, rules}
use Rattle.keeper_core.specs.Held.{room_in, is_in}
use Rattle.keeper_core.specs.Lists.{table_of}
use Rattle.keeper_core.proofs.Rooms.{room_for_more}
use Rattle.keeper_core.proofs.memory.stage.Goals as goal

pub returns-clause-room : goal.returns-clause-room
returns-clause-room c =
    let items : c.push.new.self.items ≡ c.args.staged.now.items ++ c.in_ok-row.row ∷ [] = c.in_ok-push.ensures.items in
    let made : count_by (is_in (table_of c.in_ok-row.row)) c.args.staged.now.items + 1 ≤ room_in (table_of c.in_ok-row.row) c.reserve.new.self.room = search rules in
    rw items (room_for_more c.args.staged.now.items c.in_ok-row.row c.args.tables.now.room c.reserve.new.self.room c.requires c.reserve.ensures.room made)
