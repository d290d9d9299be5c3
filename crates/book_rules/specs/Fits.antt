-- Rows of keys, plans and joins that may stand at a moment.
use Rattle.std.specs.Prelude.{◌≡◌, ℕ, ◌≤◌, ◌<◌, ◌^◌, true, List, Option, Some, is_some}
use Rattle.gw_base.specs.Names.{is_name}
use Rattle.usage_plans.specs.Rows.{IsPlanRow, tally_in, terms_in}
use Rattle.usage_plans.specs.Tallies.{IsTally}
use Rattle.keeper_core.specs.Lists.{Lists, key_row, plan_row, join_row}
use Rattle.keeper_core.specs.declared.rows.KeyRow.{KeyRow}
use Rattle.keeper_core.specs.declared.rows.PlanRow.{PlanRow}
use Rattle.keeper_core.specs.declared.rows.JoinRow.{JoinRow}
use Rattle.book_rules.specs.Limits.{most_versions}

pub record IsFitPlan (row : PlanRow) : Type 0 where
  pub named : is_name row.plan ≡ true
  pub columns : IsPlanRow row
  pub version : row.tversion ≤ most_versions

-- the numbers of a join under its plan's row at t
pub record IsFitJoin (plan : PlanRow) (row : JoinRow) (t : ℕ) : Type 0 where
  pub tally : IsTally (terms_in plan) (tally_in row) t
  pub number : row.pnumber < 2 ^ 32
  pub version : row.tversion ≤ plan.tversion

-- each key has a name, each plan its columns, and each join a plan, and numbers that may stand at t, which is before the year 2100
pub record AreFit (lists : Lists) (t : ℕ) : Type 0 where
  pub early : t < 4102444800000
  pub keys : (key : List ℕ) (row : KeyRow) → key_row lists key ≡ Some row → is_name row.key ≡ true
  pub plans : (plan : List ℕ) (row : PlanRow) → plan_row lists plan ≡ Some row → IsFitPlan row
  pub planned : (plan key : List ℕ) (row : JoinRow) → join_row lists plan key ≡ Some row → is_some (plan_row lists plan) ≡ true
  pub joins : (plan key : List ℕ) (of : PlanRow) (row : JoinRow) → plan_row lists plan ≡ Some of → join_row lists plan key ≡ Some row → IsFitJoin of row t
