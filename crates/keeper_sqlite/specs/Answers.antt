-- The answers of the statements that read a table, and the rows that they are.
use Rattle.std.specs.Prelude.{◌≡◌, ℕ, ◌<◌, List, [], ◌∷◌, length, take, slice_index_or, ⊤}
use Rattle.sqlite_value.specs.declared.value.Value.{Value}
use Rattle.keeper_core.specs.Lists.{Lists, put_all, table_of}
use Rattle.keeper_core.specs.declared.rows.Row.{Row}
use Rattle.keeper_core.specs.declared.keeper.LoadFault.{LoadFault}
use Rattle.keeper_core.specs.declared.keeper.LoadFault.TheVariants.{BadRow, Failed, Memory}
use Rattle.keeper_core.specs.declared.table.Table.{Table}
use Rattle.keeper_sqlite.specs.Columns.{Holds, FitIn, columns}

-- the values are this row, and it stands in the table
pub record IsRowOf (table : Table) (values : List Value) (row : Row) : Type 0 where
  pub stands : table_of row ≡ table
  pub holds : Holds values 0 (columns row)

-- the answer is these rows, one for each
abbrev pub AreRowsOf : Table → List (List Value) → List Row → Type 0
AreRowsOf table [] [] = ⊤
AreRowsOf table [] (row ∷ rows) = ⊥
AreRowsOf table (values ∷ answer) [] = ⊥
AreRowsOf table (values ∷ answer) (row ∷ rows) = IsRowOf table values row × AreRowsOf table answer rows

-- the rows of the answer were put in the tables, the first one first
abbrev pub IsPut : Table → List (List Value) → Lists → Lists → Type 0
IsPut table answer before now = (rows : List Row) × AreRowsOf table answer rows × (now ≡ put_all rows before)

-- the answer's row of this number, counted from 0, can be no row of the table, and those before it are rows
pub record IsFirstBad (table : Table) (answer : List (List Value)) (at : ℕ) : Type 0 where
  pub inside : at < length answer
  pub bad : ¬ FitIn table (slice_index_or answer at [])
  pub before : (rows : List Row) × AreRowsOf table (take at answer) rows

-- why one row of an answer, which has this number, was not put: it can be no row of the table, or memory is wanting
abbrev pub IsUnfit : Table → ℕ → List Value → LoadFault → Type 0
IsUnfit table number values (BadRow other at) = (other ≡ table) × (at ≡ number) × ¬ FitIn table values
IsUnfit table number values Failed = ⊥
IsUnfit table number values Memory = ⊤

-- why an answer was not put whole
abbrev pub HasUnfit : Table → List (List Value) → LoadFault → Type 0
HasUnfit table answer (BadRow other at) = (other ≡ table) × IsFirstBad table answer at
HasUnfit table answer Failed = ⊥
HasUnfit table answer Memory = ⊤

-- a row that is named stands in this table
abbrev pub IsOfTable : Table → LoadFault → Type 0
IsOfTable table (BadRow other at) = other ≡ table
IsOfTable table Failed = ⊤
IsOfTable table Memory = ⊤
