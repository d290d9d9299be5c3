use Rattle.std.proofs.Common.{◌≡◌, length}
use Rattle.std.specs.Vec.Iter.{into_iter_items, into_iter_len}
use Rattle.keeper_core.specs.Keeping.{HasRoomFor}
use Rattle.keeper_core.specs.Lists.{put_all}
use Rattle.keeper_core.proofs.memory.put_rows.Given as goal

-- what is left has room, and leaves with it what all rows leave
abbrev pub invariant-loop-row : goal.invariant-loop-row
invariant-loop-row l = record {
  lists : put_all (into_iter_items l.row-iterator) l.tables.lists ≡ put_all (into_iter_items l.initial.row-iterator) l.initial.tables.lists;
  room : HasRoomFor (into_iter_items l.row-iterator) l.tables.room;
  len : into_iter_len l.row-iterator ≡ length (into_iter_items l.row-iterator);
}
