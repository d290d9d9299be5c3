-- What contracts see of a keeper, and what its calls say.
use Rattle.std.specs.Prelude.{◌≡◌, ℕ, ◌-◌, ◌≤◌, Bool, true, false, not, ◌&&◌, ◌||◌, List, count_by, Option, Some, None, Result, Ok, Err, IfSome, IsSome, if◌then◌else◌}
use Rattle.std.specs.Option.{option_map}
use Rattle.gw_base.specs.Feed.{raised, is_listed}
use Rattle.gw_base.specs.Outside.{Rose}
use Rattle.keeper_core.specs.Held.{Rooms, room_in, is_in}
use Rattle.keeper_core.specs.Lists.{Lists, join_row, put_all}
use Rattle.keeper_core.specs.declared.rows.Row.{Row}
use Rattle.keeper_core.specs.declared.rows.JoinRow.{JoinRow}
use Rattle.keeper_core.specs.declared.table.Table.{Table}
use Rattle.keeper_core.specs.declared.keeper.KeepFault.{KeepFault}
use Rattle.keeper_core.specs.declared.keeper.KeepFault.TheVariants.{Failed, Memory}
use Rattle.keeper_core.specs.declared.keeper.LoadFault.{LoadFault}
use Rattle.keeper_core.specs.declared.keeper.LoadFault.TheVariants.{BadRow}
use Rattle.keeper_core.specs.declared.keeper.LoadFault.TheVariants.{Failed as LoadFailed, Memory as LoadMemory}

-- the numbers of the calls that fail, counted from 0, and how many calls were made, up to 2^64 - 1. A listed number is below
-- 2^32, so the end of the count changes no answer
pub record Planned : Type 0 where
  pub fails : List ℕ
  pub calls : ℕ

-- the tables that are kept, where they are told; the rows that are staged; how often a call has failed, and how often a load
-- has, each up to 2^64 - 1; and the failures, where they are told
pub record KeeperFacts : Type 0 where
  pub tables : Option Lists
  pub staged : List Row
  pub faults : ℕ
  pub loads : ℕ
  pub planned : Option Planned

-- the next call fails
abbrev pub fails_now : Planned → Bool
fails_now planned = is_listed planned.fails planned.calls

abbrev pub one_more : Planned → Planned
one_more planned = record planned { calls = raised planned.calls }

abbrev pub is_failed : {T : Type 0} → Result T KeepFault → Bool
is_failed (Ok v) = false
is_failed (Err Failed) = true
is_failed (Err Memory) = false

abbrev pub wants_memory : {T : Type 0} → Result T KeepFault → Bool
wants_memory (Ok v) = false
wants_memory (Err Failed) = false
wants_memory (Err Memory) = true

abbrev pub is_failed_load : {T : Type 0} → Result T LoadFault → Bool
is_failed_load (Ok v) = false
is_failed_load (Err (BadRow table row)) = false
is_failed_load (Err LoadFailed) = true
is_failed_load (Err LoadMemory) = false

abbrev pub load_wants_memory : {T : Type 0} → Result T LoadFault → Bool
load_wants_memory (Ok v) = false
load_wants_memory (Err (BadRow table row)) = false
load_wants_memory (Err LoadFailed) = false
load_wants_memory (Err LoadMemory) = true

abbrev pub is_bad_row : {T : Type 0} → Result T LoadFault → Bool
is_bad_row (Ok v) = false
is_bad_row (Err (BadRow table row)) = true
is_bad_row (Err LoadFailed) = false
is_bad_row (Err LoadMemory) = false

-- a call fails exactly where its number is listed, and counts unless it wanted memory
pub record GoesAsPlanned (before : Planned) (failed memory : Bool) (now : Option Planned) : Type 0 where
  pub fails : failed ≡ fails_now before
  pub counts : now ≡ Some (if memory then before else one_more before)

-- the same where the failures are told; where they are not, they stay untold
abbrev pub IsPlanned : Option Planned → Bool → Bool → Option Planned → Type 0
IsPlanned None failed memory now = now ≡ None
IsPlanned (Some planned) failed memory now = GoesAsPlanned planned failed memory now

-- a call that keeps fails only where the count of faults rose, leaves that count otherwise, and the count of loads always
pub record HasKeepCause {T : Type 0} (before now : KeeperFacts) (result : Result T KeepFault) : Type 0 where
  pub later : before.faults ≤ now.faults
  pub failed : is_failed result ≡ true → Rose before.faults now.faults
  pub left : is_failed result ≡ false → now.faults ≡ before.faults
  pub loads : now.loads ≡ before.loads

-- a load fails, or finds a bad row, only where both counts rose, and leaves both otherwise. So loads counts a part of the faults
pub record HasLoadCause {T : Type 0} (before now : KeeperFacts) (result : Result T LoadFault) : Type 0 where
  pub later : before.faults ≤ now.faults
  pub later_loads : before.loads ≤ now.loads
  pub failed : (is_failed_load result || is_bad_row result) ≡ true → Rose before.faults now.faults × Rose before.loads now.loads
  pub left : (is_failed_load result || is_bad_row result) ≡ false → (now.faults ≡ before.faults) × (now.loads ≡ before.loads)
  pub part : before.loads ≤ before.faults → (now.loads ≤ now.faults) × (now.faults - before.faults ≤ now.loads - before.loads)

-- the tables with these rows put in, where they are told
abbrev pub with_rows : List Row → Option Lists → Option Lists
with_rows rows tables = option_map (put_all rows) tables

-- the row of this join's key is there, where the tables are told
abbrev pub HasJoin : Option Lists → JoinRow → Type 0
HasJoin tables row = IfSome tables (λ lists. IsSome (join_row lists row.plan row.key))

-- what a keeper in memory tells
pub record MemFacts : Type 0 where
  pub lists : Lists
  pub staged : List Row
  pub faults : ℕ
  pub loads : ℕ
  pub planned : Planned

abbrev pub told_by : MemFacts → KeeperFacts
told_by facts = record { tables = Some facts.lists; staged = facts.staged; faults = facts.faults; loads = facts.loads; planned = Some facts.planned }

-- each table has room for the rows that are staged for it
abbrev pub HasRoomFor : List Row → Rooms → Type 0
HasRoomFor staged rooms = (table : Table) → count_by (is_in table) staged ≤ room_in table rooms

-- a row is kept by two calls, the second of which is made where the first succeeds. It fails exactly where the number of one of
-- them is listed. Only the first wants memory, and then no call counts
pub record KeepsAsPlanned (before : Planned) (failed memory : Bool) (now : Option Planned) : Type 0 where
  pub fails : failed ≡ (fails_now before || not memory && fails_now (one_more before))
  pub counts : now ≡ Some (if fails_now before then one_more before else if memory then before else one_more (one_more before))

abbrev pub IsKeptAsPlanned : Option Planned → Bool → Bool → Option Planned → Type 0
IsKeptAsPlanned None failed memory now = now ≡ None
IsKeptAsPlanned (Some planned) failed memory now = KeepsAsPlanned planned failed memory now
