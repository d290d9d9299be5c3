-- What tables hold, and the room that they have.
use Rattle.std.specs.Prelude.{ℕ, Bool, true, false}
use Rattle.keeper_core.specs.Lists.{Lists}
use Rattle.keeper_core.specs.declared.rows.Row.{Row}
use Rattle.keeper_core.specs.declared.rows.Row.TheVariants.{Meta, Api, Deployment, Stage, Key, Plan, Join}
use Rattle.keeper_core.specs.declared.table.Table.{Table}
use Rattle.keeper_core.specs.declared.table.Table.TheVariants.{Apis, Deployments, Stages, Keys, Plans, Joins}
use Rattle.keeper_core.specs.declared.table.Table.TheVariants.{Meta as Metas}

-- how many rows more each table takes without memory
pub record Rooms : Type 0 where
  pub metas : ℕ
  pub apis : ℕ
  pub deployments : ℕ
  pub stages : ℕ
  pub keys : ℕ
  pub plans : ℕ
  pub joins : ℕ

pub record Held : Type 0 where
  pub lists : Lists
  pub room : Rooms

abbrev pub room_in : Table → Rooms → ℕ
room_in Metas rooms = rooms.metas
room_in Apis rooms = rooms.apis
room_in Deployments rooms = rooms.deployments
room_in Stages rooms = rooms.stages
room_in Keys rooms = rooms.keys
room_in Plans rooms = rooms.plans
room_in Joins rooms = rooms.joins

-- the row stands in this table
abbrev pub is_in : Table → Row → Bool
is_in Metas (Meta row) = true
is_in Apis (Api row) = true
is_in Deployments (Deployment row) = true
is_in Stages (Stage row) = true
is_in Keys (Key row) = true
is_in Plans (Plan row) = true
is_in Joins (Join row) = true
is_in table row = false
