-- What an outside in memory holds, and what its calls change of it.
use Rattle.std.specs.Prelude.{◌≡◌, ℕ, ◌+◌, ◌-◌, nat_lt, Bool, true, false, ◌||◌, List, [], ◌∷◌, ◌++◌, length, take, drop, map, count_by, Option, Some, None, Result, Ok, Err, is_none, find, if◌then◌else◌, Vec}
use Rattle.std.specs.Str.{bytes_eq}
use Rattle.std.proofs.Common.{ap}
use Rattle.gw_base.specs.Feed.{raised, is_listed}
use Rattle.gw_base.specs.declared.readings.FixedClock.{FixedClock}
use Rattle.gw_base.specs.declared.readings.SplitMix.{SplitMix}
use Rattle.backend_core.specs.declared.request.WireRequest.{WireRequest}
use Rattle.backend_core.specs.declared.outcome.Outcome.{Outcome}
use Rattle.gate_ports.specs.Docks.{PortFacts, coming_of, served_of}
use Rattle.gate_ports.specs.declared.lane.Lane.{Lane}
use Rattle.keeper_core.specs.Keeping.{MemFacts, told_by}
use Rattle.keeper_core.specs.Lists.{Lists, no_rows}
use Rattle.outside_core.specs.Files.{Files, content_of}
use Rattle.outside_core.specs.Told.{LaneTold}
use Rattle.outside_core.specs.declared.outside.KeeperStart.{KeeperStart}
use Rattle.outside_core.specs.declared.outside.KeeperStart.TheVariants.{BadStore, StoreFault, Memory}
use Rattle.outside_core.specs.declared.outside.OutsideFault.{OutsideFault}
use Rattle.outside_core.specs.declared.outside.OutsideFault.TheVariants.{Failed, Memory as LendMemory}

-- a store in memory: its name, its tables, and which calls of each keeper of it fail
pub record StoreFacts : Type 0 where
  pub name : List ℕ
  pub lists : Lists
  pub fails : List ℕ

-- the stores, the names of those whose keepers are lent, the last of them first, and the keepers that were given back
pub record StoresFacts : Type 0 where
  pub stores : List StoreFacts
  pub out : List (List ℕ)
  pub back : List MemFacts

-- what waits to be lent, what was given back, and how much is lent
pub record LentFacts (L : Type 0) : Type 0 where
  pub waiting : List L
  pub returned : List L
  pub out : ℕ

-- a lane in memory, over any backend and any gate
abbrev pub MemLane : Type 0 → Type 0 → Type 0
MemLane B G = Lane PortFacts B FixedClock SplitMix G

-- the files, the stores, the lanes, the histories, which calls fail, how many were made, and how many of them failed
pub record OutsideFacts (E L : Type 0) : Type 0 where
  pub files : Files
  pub stores : StoresFacts
  pub lanes : LentFacts L
  pub sessions : List (List E)
  pub fails : List ℕ
  pub calls : ℕ
  pub failures : ℕ

-- the name and the tables of a store
abbrev pub named : StoreFacts → List ℕ × Lists
named store = (store.name, store.lists)

-- a keeper of which no call was made
abbrev pub unused_keeper : Lists → List ℕ → MemFacts
unused_keeper lists fails = record { lists = lists; staged = []; faults = 0; loads = 0; planned = record { fails = fails; calls = 0 } }

-- the first store of this name
abbrev pub found : List ℕ → List StoreFacts → Option StoreFacts
found name stores = find (λ store. bytes_eq store.name name) stores

-- a keeper of this store; without one it has no rows, and no call of it fails
abbrev pub kept_by : Option StoreFacts → MemFacts
kept_by None = unused_keeper no_rows []
kept_by (Some store) = unused_keeper store.lists store.fails

-- the keeper of the first store of this name
abbrev pub keeper_of : List ℕ → List StoreFacts → MemFacts
keeper_of name stores = kept_by (found name stores)

-- the stores with these tables in the first of this name, which without one is added at the end
abbrev pub with_tables : List ℕ → Lists → List StoreFacts → List StoreFacts
with_tables name lists [] = record { name = name; lists = lists; fails = [] } ∷ []
with_tables name lists (store ∷ stores) = if bytes_eq store.name name then record store { lists = lists } ∷ stores else store ∷ with_tables name lists stores

-- of a lane in memory the port was not shut, has no connection out, and no look at it has failed
abbrev pub IsUnusedLane : {B G : Type 0} → MemLane B G → Type 0
IsUnusedLane lane = (lane.port.closed ≡ false) × (lane.port.out ≡ false) × (lane.port.faults ≡ 0)

-- what a lane in memory tells, whose backend tells this of itself
abbrev pub lane_told : {B G : Type 0} → (B → Option (List WireRequest)) → (B → Option (List Outcome)) → MemLane B G → LaneTold
lane_told sent given lane = record {
  coming = Some (map coming_of lane.port.coming);
  served = Some (map served_of lane.port.served);
  sent = sent lane.means.backend;
  given = given lane.means.backend;
  moment = Some lane.means.clock.moment;
  word = None;
  closed = lane.port.closed;
  out = lane.port.out;
  faults = lane.port.faults;
}

-- a load of the keeper has failed
abbrev pub has_failed_load : MemFacts → Bool
has_failed_load keeper = nat_lt 0 keeper.loads

-- a look at the lane's port has failed
abbrev pub has_failed_look : {B G : Type 0} → MemLane B G → Bool
has_failed_look lane = nat_lt 0 lane.port.faults

-- the calls that failed, and of what was given back the keepers and the lanes that had failed
abbrev pub faults_of : {E B G : Type 0} → OutsideFacts E (MemLane B G) → ℕ
faults_of facts = facts.failures + count_by has_failed_load facts.stores.back + count_by has_failed_look facts.lanes.returned

-- all but the histories
abbrev pub beside_of : {E L : Type 0} → OutsideFacts E L → OutsideFacts E L
beside_of facts = record facts { sessions = [] }

-- after a call that did not fail
abbrev pub asked : {E L : Type 0} → OutsideFacts E L → OutsideFacts E L
asked facts = record facts { calls = raised facts.calls }

-- after a call that failed
abbrev pub failed : {E L : Type 0} → OutsideFacts E L → OutsideFacts E L
failed facts = record facts { calls = raised facts.calls; failures = raised facts.failures }

-- the next call fails, since its number is listed
abbrev pub fails_next : {E L : Type 0} → OutsideFacts E L → Bool
fails_next facts = is_listed facts.fails facts.calls

-- the next call for the file of this name fails: by its number, or since no file has this name
abbrev pub fails_file : {E L : Type 0} → OutsideFacts E L → List ℕ → Bool
fails_file facts name = fails_next facts || is_none (content_of name facts.files)

-- the next call for so many lanes fails: by its number, or since fewer wait
abbrev pub fails_lanes : {E L : Type 0} → OutsideFacts E L → ℕ → Bool
fails_lanes facts n = fails_next facts || nat_lt (length facts.lanes.waiting) n

-- after the keeper of the store of this name was lent
abbrev pub keeper_lent : List ℕ → StoresFacts → StoresFacts
keeper_lent name facts = record facts { out = name ∷ facts.out }

-- after it was given back
abbrev pub keeper_returned : List ℕ → MemFacts → StoresFacts → StoresFacts
keeper_returned name keeper facts = record { stores = with_tables name keeper.lists facts.stores; out = drop 1 facts.out; back = facts.back ++ keeper ∷ [] }

-- after the first so many of those that wait were lent
abbrev pub first_lent : {L : Type 0} → ℕ → LentFacts L → LentFacts L
first_lent n facts = record facts { waiting = drop n facts.waiting; out = facts.out + n }

-- after these were given back
abbrev pub all_returned : {L : Type 0} → List L → LentFacts L → LentFacts L
all_returned items facts = record facts { returned = facts.returned ++ items; out = facts.out - length items }

-- what a call for a keeper answers, and what it changes
abbrev pub LendsKeeper : {E L : Type 0} → List ℕ → Result MemFacts KeeperStart → OutsideFacts E L → OutsideFacts E L → Type 0
LendsKeeper name (Ok keeper) old new = (fails_next old ≡ false) × (keeper ≡ keeper_of name old.stores.stores) × (new ≡ asked (record old { stores = keeper_lent name old.stores }))
LendsKeeper name (Err (BadStore table row)) old new = ⊥
LendsKeeper name (Err StoreFault) old new = (fails_next old ≡ true) × (new ≡ failed old)
LendsKeeper name (Err Memory) old new = (fails_next old ≡ false) × (new ≡ old)

-- what a call for so many lanes answers, and what it changes
abbrev pub LendsLanes : {E L A : Type 0} → ℕ → Result (Vec L A) OutsideFault → OutsideFacts E L → OutsideFacts E L → Type 0
LendsLanes n (Ok lanes) old new = (fails_lanes old n ≡ false) × (lanes.items ≡ take n old.lanes.waiting) × (new ≡ asked (record old { lanes = first_lent n old.lanes }))
LendsLanes n (Err Failed) old new = (fails_lanes old n ≡ true) × (new ≡ failed old)
LendsLanes n (Err LendMemory) old new = (fails_lanes old n ≡ false) × (new ≡ old)

-- two outsides that differ in their histories alone tell the same of all else
pub told_alike : {E B G : Type 0} (sent : B → Option (List WireRequest)) (given : B → Option (List Outcome)) (a b : OutsideFacts E (MemLane B G)) → beside_of a ≡ beside_of b
    → (Some a.files ≡ Some b.files) × (Some (map named a.stores.stores) ≡ Some (map named b.stores.stores)) × (Some (map (lane_told sent given) a.lanes.waiting) ≡ Some (map (lane_told sent given) b.lanes.waiting))
    × (Some (map told_by a.stores.back) ≡ Some (map told_by b.stores.back)) × (Some (map (lane_told sent given) a.lanes.returned) ≡ Some (map (lane_told sent given) b.lanes.returned))
    × (a.stores.out ≡ b.stores.out) × (a.lanes.out ≡ b.lanes.out) × (faults_of a ≡ faults_of b)
told_alike sent given a b same = (
  ap (λ o. Some o.files) same,
  ap (λ o. Some (map named o.stores.stores)) same,
  ap (λ o. Some (map (lane_told sent given) o.lanes.waiting)) same,
  ap (λ o. Some (map told_by o.stores.back)) same,
  ap (λ o. Some (map (lane_told sent given) o.lanes.returned)) same,
  ap (λ o. o.stores.out) same,
  ap (λ o. o.lanes.out) same,
  ap faults_of same,
)
