-- What administering a store comes to.
use Rattle.std.specs.Prelude.{◌≡◌, ◌⊎◌, ℕ, ◌-◌, ◌^◌, ◌≤◌, min, List, [], length, Option, None, IfSome}
use Rattle.std.specs.Io.KnownBytes.{Appends}
use Rattle.backend_core.specs.Exchanges.{gained}
use Rattle.book_core.specs.Books.{Keeps}
use Rattle.book_rules.specs.Good.{bad_row}
use Rattle.book_rules.specs.History.{Base}
use Rattle.book_rules.specs.declared.events.Entry.{Entry}
use Rattle.book_rules.specs.declared.events.Limits.{Limits}
use Rattle.gw_base.specs.Whole.{AppendsFront}
use Rattle.keeper_core.specs.Keeping.{KeeperFacts}
use Rattle.keeper_core.specs.declared.table.Table.{Table}
use Rattle.outside_core.specs.Stores.{store_of, stored}
use Rattle.serve_command.specs.Ends.{bad_store_line}
use Rattle.serve_command.specs.Serving.{IsBadStore, NotHeld}
use Rattle.serve_command.specs.Shelves.{Shelves}
use Rattle.admin_command.specs.Administering.{Administers, CarriedOut, Came, lost_in}

-- A book over the store of this name was opened, and closed behind this history:
pub record OverStore (limits : Limits) (name : List ℕ) (old new : Shelves) (base : Base) (history : List Entry) : Type 0 where
  -- it opened with the store's tables, which are good, where they are told;
  pub limited : base.limits ≡ limits
  pub opening : IfSome old.stores (λ told. base.opening ≡ store_of name told)
  pub good : bad_row base.opening ≡ None
  -- the keeper was given back with the tables of that history, so that they are the store's,
  pub keeper : KeeperFacts
  pub kept_back : new.kept_back ≡ gained old.kept_back keeper
  pub keeps : Keeps base history keeper
  pub stores : new.stores ≡ stored name keeper.tables old.stores
  -- and no more changes were lost than it counted faults.
  pub lost : min (length (lost_in history)) (2 ^ 64 - 1) ≤ keeper.faults
  pub apart : NotHeld old new

-- the store has a row that no book opens with, and nothing was carried out
abbrev pub IsUnopened : List ℕ → Shelves → Shelves → (List ℕ → Type 0) → Type 0
IsUnopened name old new Written = (table : Table) × (row : ℕ) × IsBadStore name old new table row × NotHeld old new × Written (bad_store_line table row)

-- Why administering ended with this status, and what was written: what the lines print, or the bad row of a store.
abbrev pub AdminEnds : Limits → List ℕ → List (List ℕ) → Shelves → Shelves → Option (List ℕ) → Option (List ℕ) → ℕ → Type 0
AdminEnds limits name lines old new written now status =
    ((base : Base) × (came : Came) × OverStore limits name old new base came.history × Administers base 1 [] lines came
    × (status ≡ came.status) × Appends written now came.text)
    ⊎ ((status ≡ 1) × IsUnopened name old new (λ line. Appends written now line))

-- It was cut short: some of the lines were carried out, and a front of what they print was written; or one of the line of a bad row.
abbrev pub IsCutShort : Limits → List ℕ → List (List ℕ) → Shelves → Shelves → Option (List ℕ) → Option (List ℕ) → Type 0
IsCutShort limits name lines old new written now =
    ((base : Base) × (after : List Entry) × (front : List ℕ) × OverStore limits name old new base after × CarriedOut base 1 [] lines front after
    × Appends written now front)
    ⊎ IsUnopened name old new (λ line. AppendsFront written now line)

-- memory was wanting: the same, or nothing was carried out and nothing written
abbrev pub WantsMemory : Limits → List ℕ → List (List ℕ) → Shelves → Shelves → Option (List ℕ) → Option (List ℕ) → Type 0
WantsMemory limits name lines old new written now = IsCutShort limits name lines old new written now ⊎ (NotHeld old new × (now ≡ written))
