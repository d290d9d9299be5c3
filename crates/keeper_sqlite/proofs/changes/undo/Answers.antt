use Rattle.std.proofs.Common.{ap, sym, ◌∙◌}
use Rattle.keeper_sqlite.specs.Texts.{upsert_text, delete_text}
use Rattle.keeper_sqlite.specs.Undos.{undo_text, undo_values}
use Rattle.keeper_sqlite.proofs.Bound.{bound_columns}
use Rattle.keeper_sqlite.proofs.Steps.{ran_as}
use Rattle.keeper_sqlite.proofs.changes.undo.Goals as goal

pub returns-in_ok-values-in-Restore-clause-ran : goal.returns-in_ok-values-in-Restore-clause-ran
returns-in_ok-values-in-Restore-clause-ran g c clean =
    ran_as g.S.Store _ _ _ _ c.args.change.now.conn.now c.run.new.change.conn.now c.run.result (c.upsert_into.ensures ∙ ap upsert_text c.table.ensures ∙ sym (ap undo_text c.in-Restore.is))
    (bound_columns _ _ (rw c.deref.ensures.value c.in_ok-values-in-Restore.ensures) ∙ sym (ap undo_values c.in-Restore.is)) (c.run.ensures.ran clean)

pub returns-in_ok-values-in-Remove-clause-ran : goal.returns-in_ok-values-in-Remove-clause-ran
returns-in_ok-values-in-Remove-clause-ran g c clean =
    ran_as g.S.Store _ _ _ _ c.args.change.now.conn.now c.run-in-Remove.new.change.conn.now c.run-in-Remove.result
    (c.delete_from.ensures ∙ ap delete_text c.table-in-Remove.ensures ∙ sym (ap undo_text c.in-Remove.is)) (c.key_of.ensures ∙ sym (ap undo_values c.in-Remove.is)) (c.run-in-Remove.ensures.ran clean)
