-- What a quota allows at a moment, and what of it was used.
use Rattle.std.specs.Prelude.{ℕ, ◌-◌, Bool, Option, Some, is_none, option_map, if◌then◌else◌}
use Rattle.usage_meter.specs.declared.allowance.Quota.{Quota}
use Rattle.usage_meter.specs.declared.allowance.Allowance.{Allowance}
use Rattle.usage_meter.specs.Periods.{period_at, is_standing}

-- a period that is opened at t: nothing is used, and the limit is allowed, in the first period lowered by the offset
abbrev pub opened_allowance : Quota → ℕ → Bool → Allowance
opened_allowance quota t first =
    record {
      period = Some (period_at quota.kind t);
      allowance = quota.limit - (if first then quota.offset else 0);
      used = 0;
      first = first;
    }

-- What stands at t: the row as it is, where its own period still stands. Else a period is opened under the quota as
-- it is now, if there is one; it is the row's first, if the row has had none.
abbrev pub allowance_at : Allowance → Option Quota → ℕ → Option Allowance
allowance_at row quota t =
    if is_standing row.period t then Some row
    else option_map (λ q. opened_allowance q t (is_none row.period)) quota
