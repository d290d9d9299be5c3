-- How a book starts over a keeper.
use Rattle.std.specs.Prelude.{◌≡◌, ◌⊎◌, ℕ, Bool, true, false, List, [], Option, Some, None, Result, Ok, Err, IfSome}
use Rattle.gw_base.specs.Outside.{Rose}
use Rattle.keeper_core.specs.Lists.{Lists}
use Rattle.keeper_core.specs.Keeping.{KeeperFacts, Planned, IsPlanned, fails_now}
use Rattle.keeper_core.specs.declared.table.Table.{Table}
use Rattle.keeper_core.specs.declared.keeper.LoadFault.{LoadFault}
use Rattle.keeper_core.specs.declared.keeper.LoadFault.TheVariants.{BadRow, Failed}
use Rattle.keeper_core.specs.declared.keeper.LoadFault.TheVariants as load
use Rattle.book_rules.specs.Good.{bad_row}
use Rattle.book_rules.specs.History.{Base}
use Rattle.book_rules.specs.declared.events.Entry.{Entry}
use Rattle.book_rules.specs.declared.events.Limits.{Limits}
use Rattle.book_core.specs.declared.start.StartFault.{StartFault}
use Rattle.book_core.specs.declared.start.StartFault.TheVariants.{BadStore, StoreFault, Memory}

-- A book that started: it has no entry; its opening tables are the keeper's, where they are told, and good; what is told of the keeper
-- is as it was, but for the one call of its load.
pub record HasStarted (before : KeeperFacts) (asked : Limits) (base : Base) (entries : List Entry) (now : KeeperFacts) : Type 0 where
  pub history : entries ≡ []
  pub limits : base.limits ≡ asked
  pub start : base.start ≡ now
  pub good : bad_row base.opening ≡ None
  pub opening : IfSome before.tables (λ lists. base.opening ≡ lists)
  pub tables : now.tables ≡ before.tables
  pub staged : now.staged ≡ []
  pub faults : now.faults ≡ before.faults
  pub loads : now.loads ≡ before.loads
  pub planned : IsPlanned before.planned false false now.planned

-- a row is named: the first that is refused, where the tables are told; else such a row of what was loaded, or one that the load named
abbrev pub IsNamed : Option Lists → KeeperFacts → Table → ℕ → KeeperFacts → Type 0
IsNamed (Some lists) before table row now = bad_row lists ≡ Some (table, row)
IsNamed None before table row now = Rose before.loads now.loads ⊎ ((lists : Lists) × (bad_row lists ≡ Some (table, row)))

-- why a book did not start, and what the keeper shows that is handed back
abbrev pub StartFails : KeeperFacts → StartFault → KeeperFacts → Type 0
StartFails before (BadStore table row) now = IsNamed before.tables before table row now
StartFails before StoreFault now = Rose before.loads now.loads
StartFails before Memory now = Unit {0}

abbrev pub is_store_fault : StartFault → Bool
is_store_fault (BadStore table row) = false
is_store_fault StoreFault = true
is_store_fault Memory = false

-- the keeper failed
abbrev pub is_failed_start : {B K : Type 0} → Result B (K × StartFault) → Bool
is_failed_start (Ok book) = false
is_failed_start (Err e) = is_store_fault e.1

-- it fails exactly where the load's call is one of those that are told to fail
abbrev pub FailsAt : Option Planned → Bool → Type 0
FailsAt None failed = Unit {0}
FailsAt (Some plan) failed = failed ≡ fails_now plan

-- what the load's fault is to a book
abbrev pub fault_of : LoadFault → StartFault
fault_of (BadRow table row) = BadStore table row
fault_of Failed = StoreFault
fault_of load.Memory = Memory
