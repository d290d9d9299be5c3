-- What giving a keeper and lanes back leaves of an outside.
use Rattle.std.specs.Prelude.{◌≡◌, ℕ, ◌≤◌, ◌-◌, nat_lt, Bool, true, List, drop, length}
use Rattle.std.specs.List.{list_any}
use Rattle.backend_core.specs.Exchanges.{gained}
use Rattle.gw_base.specs.Outside.{Rose}
use Rattle.keeper_core.specs.Keeping.{KeeperFacts}
use Rattle.outside_core.specs.Lending.{gained_all}
use Rattle.outside_core.specs.Stores.{stored}
use Rattle.outside_core.specs.Told.{LaneTold}
use Rattle.serve_command.specs.Shelves.{Shelves}

-- a book's keeper was given back, and no session was held
pub record IsGivenUp (old new : Shelves) : Type 0 where
  pub waiting : new.waiting ≡ old.waiting
  pub returned : new.returned ≡ old.returned
  pub sessions : new.sessions ≡ old.sessions
  pub keepers : new.keepers_out ≡ drop 1 old.keepers_out
  pub lanes : new.lanes_out ≡ old.lanes_out
  pub later : old.faults ≤ new.faults

-- a look for a connection has failed on the lane
abbrev pub has_failed : LaneTold → Bool
has_failed told = nat_lt 0 told.faults

-- the keeper of the store of this name and these lanes were given back
pub record AreBack (name : List ℕ) (keeper : KeeperFacts) (lanes : List LaneTold) (old new : Shelves) : Type 0 where
  pub waiting : new.waiting ≡ old.waiting
  pub sessions : new.sessions ≡ old.sessions
  pub returned : new.returned ≡ gained_all old.returned lanes
  pub kept_back : new.kept_back ≡ gained old.kept_back keeper
  pub stores : new.stores ≡ stored name keeper.tables old.stores
  pub keepers : new.keepers_out ≡ drop 1 old.keepers_out
  pub lanes_out : new.lanes_out ≡ old.lanes_out - length lanes
  pub later : old.faults ≤ new.faults
  -- a load that failed counts, and so does a look
  pub load : nat_lt 0 keeper.loads ≡ true → Rose old.faults new.faults
  pub look : list_any has_failed lanes ≡ true → Rose old.faults new.faults
