use Rattle.std.proofs.Common.{List, ◌∙◌, arith, subst₂, sym}
use Rattle.keeper_core.specs.declared.rows.Row.{Row}
use Rattle.keeper_sqlite.specs.declared.undo.Undo.{Undo}
use Rattle.keeper_sqlite.specs.Steps.{AreWritten}
use Rattle.keeper_sqlite.proofs.Steps.{inside_then, next_taken, written_more}
use Rattle.keeper_sqlite.proofs.changes.write_each.Goals as goal

pub loop-row-preserved : goal.loop-row-preserved
loop-row-preserved g c = record {
  same = c.write_row.ensures.same_reference ∙ c.loop-row.invariant.same;
  inside = inside_then _ _ _ c.loop-row.invariant.inside c.write_row.ensures.inside;
  still = λ clean. c.in_ok-undo.ensures.still clean;
  written = λ clean. subst₂ (λ (rows : List Row) (undos : List Undo). AreWritten g.S.Store rows undos c.args.change.now.conn.now c.write_row.new.change.conn.now)
      (sym (next_taken c.args.rows.now c.loop-row.row-index c.row-item.result (omega arith) c.row-item.is)) (sym c.in_ok-hold.ensures)
      (written_more g.S.Store _ _ c.row-item.result c.in_ok-undo.undo c.args.change.now.conn.now c.loop-row.change.conn.now c.write_row.new.change.conn.now
      (c.loop-row.invariant.written (omega (arith, c.write_row.ensures.inside.crash.clean))) (c.in_ok-undo.ensures.written clean));
}
