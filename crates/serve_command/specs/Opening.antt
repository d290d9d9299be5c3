-- What comes of opening a store.
use Rattle.std.specs.Prelude.{◌≡◌, ℕ, List, [], ◌∷◌, Some, None, IfSome}
use Rattle.book_rules.specs.Good.{bad_row}
use Rattle.book_rules.specs.History.{Base}
use Rattle.book_rules.specs.declared.events.Entry.{Entry}
use Rattle.book_rules.specs.declared.events.Limits.{Limits}
use Rattle.book_core.specs.declared.start.StartFault.{StartFault}
use Rattle.book_core.specs.declared.start.StartFault.TheVariants as start
use Rattle.book_core.specs.declared.start.StartFault.TheVariants.{BadStore, StoreFault}
use Rattle.gw_base.specs.Outside.{Rose}
use Rattle.outside_core.specs.Stores.{store_of}
use Rattle.outside_core.specs.declared.outside.KeeperStart.{KeeperStart}
use Rattle.outside_core.specs.declared.outside.KeeperStart.TheVariants as lending
use Rattle.serve_command.specs.Ends.{bad_store_line}
use Rattle.serve_command.specs.Serving.{IsBadStore, NotHeld}
use Rattle.serve_command.specs.Shelves.{Shelves, AllIsBack}
use Rattle.serve_command.specs.declared.open.OpenStop.{OpenStop}
use Rattle.serve_command.specs.declared.open.OpenStop.TheVariants as stop

-- a book opened over the store of this name: it has no entry, and its keeper is lent, which tells its tables where the stores are told
pub record Opened (limits : Limits) (name : List ℕ) (old new : Shelves) (base : Base) (history : List Entry) : Type 0 where
  pub fresh : history ≡ []
  pub limited : base.limits ≡ limits
  pub opening : IfSome old.stores (λ told. base.opening ≡ store_of name told)
  pub tells : IfSome old.stores (λ told. base.start.tables ≡ Some (store_of name told))
  pub good : bad_row base.opening ≡ None
  pub lent : new ≡ record old { keepers_out = name ∷ old.keepers_out }

-- none opened: nothing is lent, no session was held, and a fault has its count
abbrev pub HasCause : List ℕ → Shelves → Shelves → OpenStop → Type 0
HasCause name old new (stop.BadStore table row) = IsBadStore name old new table row
HasCause name old new stop.Keeper = Rose old.faults new.faults
HasCause name old new stop.Memory = Unit {0}

pub record NotOpened (name : List ℕ) (old new : Shelves) (why : OpenStop) : Type 0 where
  pub cause : HasCause name old new why
  pub none : NotHeld old new
  pub back : AllIsBack old new

-- what a refused start is to the one who opens
abbrev pub stop_by_start : StartFault → OpenStop
stop_by_start (BadStore table row) = stop.BadStore table row
stop_by_start StoreFault = stop.Keeper
stop_by_start start.Memory = stop.Memory

abbrev pub stop_by_lending : KeeperStart → OpenStop
stop_by_lending (lending.BadStore table row) = stop.BadStore table row
stop_by_lending lending.StoreFault = stop.Keeper
stop_by_lending lending.Memory = stop.Memory

-- this holds of the line of the bad row that was found
abbrev pub IfBadStore : OpenStop → (List ℕ → Type 0) → Type 0
IfBadStore (stop.BadStore table row) Holds = Holds (bad_store_line table row)
IfBadStore stop.Keeper Holds = ⊥
IfBadStore stop.Memory Holds = ⊥
