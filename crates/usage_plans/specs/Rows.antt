-- The numbers of rows as a plan's terms and a tally.
use Rattle.std.specs.Prelude.{◌≡◌, ℕ, ◌==◌, ◌≤◌, ◌≢◌, Option, Some, None, option_map, if◌then◌else◌}
use Rattle.std.specs.Int.{IsInRange}
use Rattle.usage_meter.specs.declared.throttle.Throttle.{Throttle}
use Rattle.usage_meter.specs.declared.allowance.Quota.{Quota}
use Rattle.usage_meter.specs.declared.period.Period.{Period}
use Rattle.usage_meter.specs.declared.period.PeriodKind.{PeriodKind}
use Rattle.usage_meter.specs.declared.period.PeriodKind.TheVariants.{Day, Week, Month}
use Rattle.keeper_core.specs.declared.rows.PlanRow.{PlanRow}
use Rattle.keeper_core.specs.declared.rows.JoinRow.{JoinRow}
use Rattle.usage_plans.specs.Deeds.{kind_number}
use Rattle.usage_plans.specs.declared.terms.TheConstants.{MOST_UNITS}
use Rattle.usage_plans.specs.declared.terms.Terms.{Terms}
use Rattle.usage_plans.specs.declared.tally.Tally.{Tally}

-- the kind of a period's column, 0 where there is none
abbrev pub kind_in : ℕ → Option PeriodKind
kind_in n = if n == 1 then Some Day else if n == 2 then Some Week else if n == 3 then Some Month else None

abbrev pub throttle_in : PlanRow → Option Throttle
throttle_in plan = if plan.burst == 0 then None else Some (record { rate = plan.rate; burst = plan.burst })

abbrev pub quota_in : PlanRow → Option Quota
quota_in plan = option_map (λ kind. record { limit = plan.qlimit; offset = plan.qoffset; kind = kind }) (kind_in plan.qkind)

-- THE TERMS of a plan's row
abbrev pub terms_in : PlanRow → Terms
terms_in plan = record { throttle = throttle_in plan; version = plan.tversion; quota = quota_in plan }

abbrev pub period_in : JoinRow → Option Period
period_in row = option_map (λ kind. record { kind = kind; number = row.pnumber }) (kind_in row.pkind)

-- THE TALLY of a join's row
abbrev pub tally_in : JoinRow → Tally
tally_in row =
    record {
      bucket = record { level = row.level; at = row.at };
      version = row.tversion;
      allowance = record { period = period_in row; allowance = row.allowance; used = row.used; first = row.first == 1 };
    }

abbrev pub kind_column : Option Period → ℕ
kind_column None = 0
kind_column (Some period) = kind_number period.kind

abbrev pub number_column : Option Period → ℕ
number_column None = 0
number_column (Some period) = period.number

-- the row with the numbers of a tally
abbrev pub row_with : JoinRow → Tally → JoinRow
row_with row tally =
    record row {
      level = tally.bucket.level;
      at = tally.bucket.at;
      tversion = tally.version;
      pkind = kind_column tally.allowance.period;
      pnumber = number_column tally.allowance.period;
      allowance = tally.allowance.allowance;
      used = tally.allowance.used;
      first = if tally.allowance.first then 1 else 0;
    }

-- the columns of a plan are in range: both of a throttle are, or both are 0
pub record IsPlanRow (plan : PlanRow) : Type 0 where
  pub rate : plan.burst ≢ 0 → IsInRange 1 1_000_000 plan.rate
  pub burst : plan.burst ≤ 1_000_000
  pub limit : plan.qlimit ≤ MOST_UNITS
  pub offset : plan.qoffset ≤ plan.qlimit

-- LAW: what is written is read
abbrev pub WrittenIsRead : Type 0
WrittenIsRead = (row : JoinRow) (tally : Tally) → tally_in (row_with row tally) ≡ tally
