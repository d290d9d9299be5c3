-- What serving a store over lanes comes to.
use Rattle.std.specs.Prelude.{◌≡◌, ◌⊎◌, ℕ, true, false, List, [], ◌∷◌, ◌++◌, length, Option, Some, None, IfSome, is_some}
use Rattle.std.specs.List.{list_any}
use Rattle.std.specs.Io.KnownBytes.{Appends}
use Rattle.backend_core.specs.Exchanges.{gained}
use Rattle.book_core.specs.Starts.{StartFails}
use Rattle.book_core.specs.declared.start.StartFault.{StartFault}
use Rattle.book_core.specs.declared.start.StartFault.TheVariants.{BadStore, StoreFault, Memory}
use Rattle.book_rules.specs.Good.{bad_row}
use Rattle.book_rules.specs.History.{Base}
use Rattle.book_rules.specs.declared.events.Limits.{Limits}
use Rattle.gw_base.specs.Outside.{Rose}
use Rattle.gw_base.specs.Whole.{AppendsFront}
use Rattle.keeper_core.specs.Keeping.{KeeperFacts}
use Rattle.keeper_core.specs.declared.table.Table.{Table}
use Rattle.outside_core.specs.Lending.{behind, gained_all}
use Rattle.outside_core.specs.Stores.{IsUnused, store_of, stored}
use Rattle.outside_core.specs.Told.{LaneTold}
use Rattle.session_chain.specs.Chains.{Chain, HeldSession, lines_of}
use Rattle.session_chain.specs.Ends.{wants_memory, has_port_fault, has_next}
use Rattle.session_chain.specs.Served.{NextFails}
use Rattle.serve_command.specs.Ends.{bad_store_line}
use Rattle.serve_command.specs.Shelves.{Shelves}

-- Sessions were held over so many lanes and over the store of this name, full ones and a last one:
pub record Held (limits : Limits) (name : List ℕ) (number : ℕ) (old new : Shelves) (full : List HeldSession) (last : HeldSession) (keeper : KeeperFacts) : Type 0 where
  -- the first book opened with the store's tables, which are good, where they are told;
  pub base : Base
  pub limited : base.limits ≡ limits
  pub opening : IfSome old.stores (λ told. base.opening ≡ store_of name told)
  pub good : bad_row base.opening ≡ None
  -- the first lanes that waited were lent, and given back behind their service;
  pub lent : List LaneTold
  pub back : List LaneTold
  pub numbered : length lent ≡ number
  pub waited : old.waiting ≡ behind lent new.waiting
  pub returned : new.returned ≡ gained_all old.returned back
  -- the sessions followed each other over them, and their histories were handed on;
  pub chain : Chain limits base lent back old.sessions new.sessions full last
  -- and the keeper was given back with the tables of the last history, which it tells where the stores are told, so that they are the
  -- store's.
  pub kept_back : new.kept_back ≡ gained old.kept_back keeper
  pub tables : keeper.tables ≡ last.keeper.tables
  pub tells : IfSome old.stores (λ told. is_some keeper.tables ≡ true)
  pub stored : new.stores ≡ stored name keeper.tables old.stores

-- no session was held
pub record NotHeld (old new : Shelves) : Type 0 where
  pub waiting : new.waiting ≡ old.waiting
  pub returned : new.returned ≡ old.returned
  pub sessions : new.sessions ≡ old.sessions

-- the store has this row, which no book starts from: one that the outside names, whose count rose; or one that a keeper had, which was
-- given back, and where the store's tables are told the first such row of them
abbrev pub IsBadStore : List ℕ → Shelves → Shelves → Table → ℕ → Type 0
IsBadStore name old new table row =
    Rose old.faults new.faults
    ⊎ ((before : KeeperFacts) × (after : KeeperFacts) × IsUnused before × StartFails before (BadStore table row) after × (new.kept_back ≡ gained old.kept_back after)
    × IfSome old.stores (λ told. bad_row (store_of name told) ≡ Some (table, row)))

-- Why serving ended with this status, and what was written: the line of each session, where none follows the last, and on no lane of that
-- one a look failed or memory was wanting; or the bad row of a store that no session was held over.
abbrev pub Ends : Limits → List ℕ → ℕ → Shelves → Shelves → Option (List ℕ) → Option (List ℕ) → ℕ → Type 0
Ends limits name number old new written now status =
    ((full : List HeldSession) × (last : HeldSession) × Held limits name number old new full last last.keeper
    × (list_any wants_memory last.ends ≡ false) × (list_any has_port_fault last.ends ≡ false) × (has_next last.ends last.history ≡ false)
    × (status ≡ 0) × Appends written now (lines_of (full ++ last ∷ [])))
    ⊎ ((table : Table) × (row : ℕ) × IsBadStore name old new table row × NotHeld old new × (status ≡ 1) × Appends written now (bad_store_line table row))

-- the keeper is why a next book did not start: a row is bad only where the outside does not tell its stores, and a load that failed has its
-- count
abbrev pub IsByKeeper : Shelves → Shelves → StartFault → Type 0
IsByKeeper old new (BadStore table row) = old.stores ≡ None
IsByKeeper old new StoreFault = Rose old.faults new.faults
IsByKeeper old new Memory = ⊥

-- The keeper could not be had or did not load, of which an outside's count tells; or the last session has a next one, and its book did
-- not start over the keeper, behind whose lines nothing was written. So where the outside tells its stores, its count rose in any case.
abbrev pub KeeperFails : Limits → List ℕ → ℕ → Shelves → Shelves → Option (List ℕ) → Option (List ℕ) → Type 0
KeeperFails limits name number old new written now =
    (Rose old.faults new.faults × NotHeld old new × (now ≡ written))
    ⊎ ((full : List HeldSession) × (last : HeldSession) × (keeper : KeeperFacts) × (fault : StartFault) × Held limits name number old new full last keeper
    × NextFails last.keeper fault keeper × IsByKeeper old new fault × (has_next last.ends last.history ≡ true) × Appends written now (lines_of (full ++ last ∷ [])))

-- A look failed, of which an outside's count tells: none for lanes at all, and then nothing was written; or one on a lane of the last
-- session, behind which the lines were written.
abbrev pub PortFails : Limits → List ℕ → ℕ → Shelves → Shelves → Option (List ℕ) → Option (List ℕ) → Type 0
PortFails limits name number old new written now =
    Rose old.faults new.faults
    × ((NotHeld old new × (now ≡ written))
    ⊎ ((full : List HeldSession) × (last : HeldSession) × Held limits name number old new full last last.keeper
    × (list_any wants_memory last.ends ≡ false) × (list_any has_port_fault last.ends ≡ true) × Appends written now (lines_of (full ++ last ∷ []))))

-- A write failed: of the line of the last session, or of that of a bad store.
abbrev pub OutputFails : Limits → List ℕ → ℕ → Shelves → Shelves → Option (List ℕ) → Option (List ℕ) → Type 0
OutputFails limits name number old new written now =
    ((full : List HeldSession) × (last : HeldSession) × Held limits name number old new full last last.keeper × AppendsFront written now (lines_of (full ++ last ∷ [])))
    ⊎ ((table : Table) × (row : ℕ) × IsBadStore name old new table row × NotHeld old new × AppendsFront written now (bad_store_line table row))
