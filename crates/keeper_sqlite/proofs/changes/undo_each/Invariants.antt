use Rattle.std.proofs.Common.{◌≡◌, take}
use Rattle.sqlite.specs.Held.{state}
use Rattle.sqlite.specs.State.{HasCleanDisk}
use Rattle.keeper_sqlite.specs.Steps.{IsInside, AreUndone}
use Rattle.keeper_sqlite.proofs.changes.undo_each.Given as goal

-- it is the same transaction, and the changes so far are undone
abbrev pub invariant-loop-it : goal.invariant-loop-it
invariant-loop-it g l = record {
  same : l.change.conn.ghost_name ≡ l.initial.change.conn.ghost_name;
  inside : IsInside (state g.S.Store l.initial.change.conn.now) (state g.S.Store l.change.conn.now);
  undone : HasCleanDisk (state g.S.Store l.change.conn.now) → AreUndone g.S.Store (take l.it-index l.undos) l.initial.change.conn.now l.change.conn.now;
}
