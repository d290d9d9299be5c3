-- What a change makes of the file, by the statements that ran. What a clause says of values holds where the disk has returned
-- what was written, which no code can test.
use Rattle.std.specs.Prelude.{◌≡◌, ℕ, true, List, [], ◌∷◌, Result, Ok, OnOk, OnErr}
use Rattle.sqlite_trees.specs.Tree.{Trees}
use Rattle.sqlite_trees.specs.declared.store.Store.{Ghosts}
use Rattle.sqlite_value.specs.declared.value.Value.{Value}
use Rattle.sqlite.specs.Held.{Held, state}
use Rattle.sqlite.specs.State.{State, HasCleanDisk, KeepsCommit, Survives, ExecutesInside, Shown}
use Rattle.keeper_core.specs.Lists.{table_of}
use Rattle.keeper_core.specs.declared.rows.Row.{Row}
use Rattle.keeper_sqlite.specs.declared.undo.Undo.{Undo}
use Rattle.keeper_sqlite.specs.Columns.{columns, key_values}
use Rattle.keeper_sqlite.specs.Texts.{upsert_text, find_text}
use Rattle.keeper_sqlite.specs.Undos.{UndoesBy, undo_text, undo_values}

-- within a transaction: a crash leaves what one before could leave, and what is committed is as it was
pub record IsInside (old new : State) : Type 0 where
  pub crash : Survives old new (λ _. ⊥)
  pub kept : HasCleanDisk new → KeepsCommit old new

-- the end of a transaction: a crash leaves what one before could leave, or the trees of the transaction. They are what is
-- committed where it ends well, and what was committed stays where it fails
pub record IsCommit {T E : Type 0} (old new : State) (result : Result T E) : Type 0 where
  pub crash : Survives old new (λ db. db ≡ old.now.trees)
  pub kept : HasCleanDisk new → OnOk result (new.committed.trees ≡ old.now.trees)
  pub left : HasCleanDisk new → OnErr result (KeepsCommit old new)

module _ {S : Type 0} (g : Ghosts S) where
  -- the statement of this text ran in the transaction, with these parameters
  abbrev pub Ran : List ℕ → List Value → Held S → Held S → Type 0
  Ran text values old new = (count : ℕ) × ExecutesInside 0 text values (state g old) (state g new) (Ok count)

  -- the row was written by the statement of its table, and before it what undoes that was read
  pub record IsWritten (row : Row) (undo : Undo) (old new : Held S) : Type 0 where
    pub mid : Held S
    pub found : List (List Value)
    pub reads : Shown (find_text (table_of row)) (key_values row) (state g old) (state g mid) found
    pub undoes : UndoesBy row found undo
    pub writes : Ran (upsert_text (table_of row)) (columns row) mid new

  -- the rows were written, the first one first
  abbrev pub AreWritten : List Row → List Undo → Held S → Held S → Type 0
  AreWritten [] [] old new = new ≡ old
  AreWritten [] (undo ∷ undos) old new = ⊥
  AreWritten (row ∷ rows) [] old new = ⊥
  AreWritten (row ∷ rows) (undo ∷ undos) old new = (mid : Held S) × IsWritten row undo old mid × AreWritten rows undos mid new

  -- the changes were undone, the first one first
  abbrev pub AreUndone : List Undo → Held S → Held S → Type 0
  AreUndone [] old new = new ≡ old
  AreUndone (undo ∷ undos) old new = (mid : Held S) × Ran (undo_text undo) (undo_values undo) old mid × AreUndone undos mid new

  -- the trees are what a transaction that runs this leaves
  abbrev pub IsLeftBy : (Held S → Held S → Type 0) → Held S → Trees → Type 0
  IsLeftBy Runs old db = (last : Held S) × Runs (record old { in_transaction = true }) last × (db ≡ (state g last).now.trees)

  -- a transaction is one step: a crash at any moment of it leaves what one before could leave, or this one database, which is
  -- what the statements make of the file. It is what is committed where the change is kept; where it is refused, what was
  -- committed stays
  pub record IsOneStep {T E : Type 0} (Runs : Held S → Held S → Type 0) (old new : Held S) (result : Result T E) : Type 0 where
    pub after : Trees
    pub crash : Survives (state g old) (state g new) (λ db. (db ≡ after) × IsLeftBy Runs old after)
    pub kept : HasCleanDisk (state g new) → OnOk result (((state g new).committed.trees ≡ after) × IsLeftBy Runs old after)
    pub left : HasCleanDisk (state g new) → OnErr result (KeepsCommit (state g old) (state g new))
