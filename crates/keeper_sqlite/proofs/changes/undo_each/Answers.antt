use Rattle.std.proofs.Common.{List, ◌∙◌, arith, subst, sym}
use Rattle.keeper_sqlite.specs.declared.undo.Undo.{Undo}
use Rattle.keeper_sqlite.specs.Steps.{AreUndone}
use Rattle.keeper_sqlite.proofs.Steps.{inside_then, next_taken, undone_more}
use Rattle.keeper_sqlite.proofs.changes.undo_each.Goals as goal

pub loop-it-preserved : goal.loop-it-preserved
loop-it-preserved g c = record {
  same = c.undo.ensures.same_reference ∙ c.loop-it.invariant.same;
  inside = inside_then _ _ _ c.loop-it.invariant.inside c.undo.ensures.inside;
  undone = λ clean. subst (λ (undos : List Undo). AreUndone g.S.Store undos c.args.change.now.conn.now c.undo.new.change.conn.now)
      (sym (next_taken c.args.undos.now c.loop-it.it-index c.it-item.result (omega arith) c.it-item.is))
      (undone_more g.S.Store _ c.it-item.result c.args.change.now.conn.now c.loop-it.change.conn.now c.undo.new.change.conn.now
      (c.loop-it.invariant.undone (omega (arith, c.undo.ensures.inside.crash.clean))) (c.in_ok-undo.ensures.ran clean));
}
