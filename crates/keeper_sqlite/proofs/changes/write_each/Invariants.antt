use Rattle.std.proofs.Common.{◌≡◌, IsTrue, take}
use Rattle.sqlite.specs.Held.{state}
use Rattle.sqlite.specs.State.{HasCleanDisk}
use Rattle.keeper_sqlite.specs.Steps.{IsInside, AreWritten}
use Rattle.keeper_sqlite.proofs.changes.write_each.Given as goal

-- it is the same transaction, and the rows so far are written
abbrev pub invariant-loop-row : goal.invariant-loop-row
invariant-loop-row g l = record {
  same : l.change.conn.ghost_name ≡ l.initial.change.conn.ghost_name;
  inside : IsInside (state g.S.Store l.initial.change.conn.now) (state g.S.Store l.change.conn.now);
  still : HasCleanDisk (state g.S.Store l.change.conn.now) → IsTrue l.change.conn.now.in_transaction;
  written : HasCleanDisk (state g.S.Store l.change.conn.now) → AreWritten g.S.Store (take l.row-index l.rows) l.undos.items l.initial.change.conn.now l.change.conn.now;
}
