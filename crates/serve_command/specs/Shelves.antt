-- What an outside tells of what it lends and takes back.
use Rattle.std.specs.Prelude.{◌≡◌, ℕ, List, Option}
use Rattle.book_rules.specs.declared.events.Entry.{Entry}
use Rattle.keeper_core.specs.Keeping.{KeeperFacts}
use Rattle.outside_core.specs.Stores.{Stores}
use Rattle.outside_core.specs.Told.{LaneTold}

-- its stores, the lanes that wait, the keepers and the lanes that were given back, the histories of closed sessions, how often it failed,
-- and what is lent
pub record Shelves : Type 0 where
  pub stores : Option Stores
  pub waiting : Option (List LaneTold)
  pub kept_back : Option (List KeeperFacts)
  pub returned : Option (List LaneTold)
  pub sessions : Option (List (List Entry))
  pub faults : ℕ
  pub keepers_out : List (List ℕ)
  pub lanes_out : ℕ

-- what was lent is given back
pub record AllIsBack (old new : Shelves) : Type 0 where
  pub keepers : new.keepers_out ≡ old.keepers_out
  pub lanes : new.lanes_out ≡ old.lanes_out
