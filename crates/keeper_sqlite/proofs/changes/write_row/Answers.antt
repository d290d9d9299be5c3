use Rattle.std.proofs.Common.{Ok, ap, ◌∙◌, arith}
use Rattle.keeper_core.specs.declared.keeper.KeepFault.{KeepFault}
use Rattle.keeper_sqlite.specs.Texts.{upsert_text}
use Rattle.keeper_sqlite.proofs.Bound.{bound_columns}
use Rattle.keeper_sqlite.proofs.Steps.{ran_as}
use Rattle.keeper_sqlite.proofs.changes.write_row.Goals as goal

pub returns-clause-written : goal.returns-clause-written
returns-clause-written g c clean =
    let read = c.in_ok-undo.ensures.read (omega (arith, c.run.ensures.inside.crash.clean)) in
    record {
      mid = c.read_undo.new.change.conn.now;
      found = read.0;
      reads = read.1;
      undoes = read.2;
      writes = ran_as g.S.Store {E = KeepFault} _ _ _ _ c.read_undo.new.change.conn.now c.run.new.change.conn.now (Ok c.in_ok-run.field-0) (c.upsert_into.ensures ∙ ap upsert_text c.table.ensures)
          (bound_columns _ _ (rw c.deref-2.ensures.value c.in_ok-values.ensures)) (c.in_ok-run.ensures.ran clean);
    }
