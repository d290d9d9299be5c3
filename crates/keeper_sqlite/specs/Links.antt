-- What a call makes of the connection to the file, and of the changes that are owed to it: those that were refused by a failure
-- of the disk which shut the connection, so that they may be in the file after all.
use Rattle.std.specs.Prelude.{◌≡◌, ◌⊎◌, false, true, List, [], ◌∷◌, reverse, Option, Some, None, IfSome, Result, Ok, Err, IsTrue, refl}
use Rattle.std.specs.Coded.{Coded, code_by, coded×, coded_list, coded_option}
use Rattle.sqlite_trees.specs.declared.store.Store.{Ghosts}
use Rattle.sqlite.specs.Held.{Held, held_code, state}
use Rattle.sqlite.specs.State.{HasCleanDisk}
use Rattle.keeper_core.specs.declared.keeper.KeepFault.{KeepFault}
use Rattle.keeper_core.specs.declared.rows.JoinRow.{JoinRow}
use Rattle.keeper_core.specs.declared.rows.Row.{Row}
use Rattle.keeper_core.specs.declared.rows.Row.TheVariants.{Join}
use Rattle.keeper_sqlite.specs.declared.undo.Undo.{Undo}
use Rattle.keeper_sqlite.specs.contracts.undo.Undo as undo
use Rattle.keeper_sqlite.specs.Columns.{can_be_written}
use Rattle.keeper_sqlite.specs.Steps.{AreWritten, AreUndone, IsOneStep}

-- the connection, where it is open, and what undoes the changes that are owed, the last change first
pub record Linked (S : Type 0) : Type 0 where
  pub conn : Option (Held S)
  pub owed : List Undo

abbrev pub linked_code : {S : Type 0} → Coded S → Coded (Linked S)
linked_code {S} store =
    code_by (Option (Held S) × List Undo) (coded× (coded_option (held_code store)) (coded_list undo.the_row.coded)) (λ l. (l.conn, l.owed)) (λ p. record { conn = p.0; owed = p.1 }) (λ _. refl)

-- between two calls no transaction is open, and nothing is owed to an open connection
abbrev pub IsSettled : {S : Type 0} → Linked S → Type 0
IsSettled link = IfSome link.conn (λ c. (c.in_transaction ≡ false) × (link.owed ≡ []))

module _ {S : Type 0} (g : Ghosts S) (is_fresh : Held S → Type 0) where
  -- the file was opened anew, and what was owed was undone in one step before anything else
  pub record IsReopened (owed : List Undo) (conn : Held S) : Type 0 where
    pub first : Held S
    pub fresh : is_fresh first
    pub undone : IsOneStep g {T = Unit {0}} {E = KeepFault} (AreUndone g owed) first conn (Ok tt)

  -- the connection that a call goes on from: the one that is open, or one that was opened anew
  abbrev pub IsReadyAs : Option (Held S) → List Undo → Held S → Type 0
  IsReadyAs (Some now) owed conn = conn ≡ now
  IsReadyAs None owed conn = IsReopened owed conn

  abbrev pub IsReady : Linked S → Held S → Type 0
  IsReady link conn = IsReadyAs link.conn link.owed conn

  -- the file could not be opened, or what is owed could not be undone: it stays owed
  abbrev pub IsNotReady : Linked S → Linked S → Type 0
  IsNotReady old new = (old.conn ≡ None) × (new.conn ≡ None) × (new.owed ≡ old.owed)

  -- after a refusal the connection is open as before; or it is shut, and what undoes the change is owed
  abbrev pub IsKeptOrOwed : List Undo → Held S → Linked S → Type 0
  IsKeptOrOwed undos to new =
      ((new.conn ≡ Some to) × (new.owed ≡ []) × (HasCleanDisk (state g to) → IsTrue (state g to).is_open))
      ⊎ ((new.conn ≡ None) × (new.owed ≡ reverse undos))

  -- the rows were written in one step, which the result tells of
  pub record Writes {T E : Type 0} (rows : List Row) (old : Linked S) (undos : List Undo) (to : Held S) (result : Result T E) : Type 0 where
    pub from : Held S
    pub ready : IsReady old from
    pub step : IsOneStep g (AreWritten g rows undos) from to result

  abbrev pub IsChange : List Row → Linked S → Linked S → Result (Unit {0}) KeepFault → Type 0
  IsChange rows old new (Ok v) = (undos : List Undo) × (to : Held S) × Writes {T = Unit {0}} {E = KeepFault} rows old undos to (Ok v) × (new.conn ≡ Some to) × (new.owed ≡ [])
  IsChange rows old new (Err fault) =
      IsNotReady old new
      ⊎ ((undos : List Undo) × (to : Held S) × Writes {T = Unit {0}} {E = KeepFault} rows old undos to (Err fault) × IsKeptOrOwed undos to new)

  -- a join row is written so, or nothing is done, since a number of it can't be written or memory runs out
  abbrev pub IsRewrite : JoinRow → Linked S → Linked S → Result (Unit {0}) KeepFault → Type 0
  IsRewrite row old new (Ok v) = (can_be_written (Join row) ≡ true) × IsChange (Join row ∷ []) old new (Ok v)
  IsRewrite row old new (Err fault) = (new ≡ old) ⊎ IsChange (Join row ∷ []) old new (Err fault)

  -- after a load nothing is owed, unless the load was refused since the file was not ready
  abbrev pub IsLoad : {T E : Type 0} → Linked S → Linked S → Result T E → Type 0
  IsLoad old new (Ok v) = (from : Held S) × IsReady old from × (now : Held S) × (new.conn ≡ Some now) × (new.owed ≡ [])
  IsLoad old new (Err fault) = IsNotReady old new ⊎ ((from : Held S) × IsReady old from × (new.owed ≡ []))
