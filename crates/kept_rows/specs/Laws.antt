-- The laws of the rows in the file.
use Rattle.std.specs.Prelude.{◌≡◌, List, [], ◌∷◌, Ok}
use Rattle.sqlite_value.specs.declared.value.Value.{Value}
use Rattle.sqlite_trees.specs.declared.store.Store.{Ghosts}
use Rattle.sqlite_resolve.specs.Compile.{table_defined_by}
use Rattle.sqlite.specs.Held.{Held, IsConnected, state}
use Rattle.sqlite.specs.State.{Shown}
use Rattle.keeper_core.specs.Lists.{table_of}
use Rattle.keeper_core.specs.declared.rows.Row.{Row}
use Rattle.keeper_core.specs.declared.table.Table.{Table}
use Rattle.keeper_sqlite.specs.Answers.{IsRowOf}
use Rattle.keeper_sqlite.specs.Columns.{columns, key_values}
use Rattle.keeper_sqlite.specs.Steps.{Ran}
use Rattle.keeper_sqlite.specs.Texts.{upsert_text, find_text}
use Rattle.kept_rows.specs.Store.{made_of, store_schema, table_in, table_text}

-- THE COLUMNS TELL THE ROW: what is read from the columns of a row is that row
abbrev pub ColumnsTellTheRow : Type 0
ColumnsTellTheRow = (row other : Row) → IsRowOf (table_of row) (columns row) other → other ≡ row

-- THE SCHEMA IS MADE BY ITS TEXTS: each text defines its table, and the tables, made one after another in a new file, are the schema
pub record SchemaIsMade : Type 0 where
  pub defined : (table : Table) → table_defined_by (table_text table) ≡ Ok (record (table_in table) { tree = 0 })
  pub made : made_of ≡ store_schema

-- A WRITTEN ROW IS READ BACK: where the statement that writes a row ran, over a connection to a store, what the row's key finds is that row alone
abbrev pub WrittenRowsAreReadBack : {S : Type 0} → Ghosts S → Type 0
WrittenRowsAreReadBack {S} g =
    (row : Row) (old mid new : Held S) (found : List (List Value)) → old.schema ≡ store_schema
    → IsConnected (g.view old.store) (g.recovers old.store) old.schema old.saved old.in_transaction → Ran g (upsert_text (table_of row)) (columns row) old mid
    → Shown (find_text (table_of row)) (key_values row) (state g mid) (state g new) found → found ≡ columns row ∷ []
