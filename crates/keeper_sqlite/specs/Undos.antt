-- What undoes the change of a row.
use Rattle.std.specs.Prelude.{◌≡◌, List, [], ◌∷◌, ℕ}
use Rattle.sqlite_value.specs.declared.value.Value.{Value}
use Rattle.keeper_core.specs.Lists.{table_of}
use Rattle.keeper_core.specs.declared.rows.Row.{Row}
use Rattle.keeper_sqlite.specs.declared.undo.Undo.{Undo}
use Rattle.keeper_sqlite.specs.declared.undo.Undo.TheVariants.{Restore, Remove}
use Rattle.keeper_sqlite.specs.Answers.{IsRowOf}
use Rattle.keeper_sqlite.specs.Columns.{columns, key_values}
use Rattle.keeper_sqlite.specs.Texts.{upsert_text, delete_text}

-- what undoes the change of this row, where the rows that have its key are these: the earlier row is written back, or a new row is deleted
abbrev pub UndoesBy : Row → List (List Value) → Undo → Type 0
UndoesBy row [] undo = undo ≡ Remove row
UndoesBy row (values ∷ more) undo = (earlier : Row) × IsRowOf (table_of row) values earlier × (undo ≡ Restore earlier)

-- the statement of an undo, and its parameters
abbrev pub undo_text : Undo → List ℕ
undo_text (Restore row) = upsert_text (table_of row)
undo_text (Remove row) = delete_text (table_of row)

abbrev pub undo_values : Undo → List Value
undo_values (Restore row) = columns row
undo_values (Remove row) = key_values row
