-- What a call, a grant and a look make of the row of one plan and key. Moments are milliseconds since 1970 in UTC.
use Rattle.std.specs.Prelude.{◌≡◌, ℕ, ◌+◌, ◌-◌, ◌==◌, ◌≤◌, nat_lt, nat_le, Bool, true, false, Option, Some, None, IfSome, option_map, unwrap_or, Result, Ok, Err, if◌then◌else◌}
use Rattle.std.specs.Result.{result_map_both}
use Rattle.usage_meter.specs.declared.throttle.Throttle.{Throttle}
use Rattle.usage_meter.specs.declared.throttle.Bucket.{Bucket}
use Rattle.usage_meter.specs.declared.allowance.Allowance.{Allowance}
use Rattle.usage_meter.specs.Levels.{capacity, level_at}
use Rattle.usage_meter.specs.Windows.{full_bucket}
use Rattle.usage_meter.specs.Allowances.{allowance_at}
use Rattle.usage_meter.specs.Periods.{begin_of}
use Rattle.usage_plans.specs.declared.terms.TheConstants.{MOST_UNITS}
use Rattle.usage_plans.specs.declared.terms.Terms.{Terms}
use Rattle.usage_plans.specs.declared.tally.Tally.{Tally}
use Rattle.usage_plans.specs.declared.tally.Admission.{Admission}
use Rattle.usage_plans.specs.declared.tally.Admission.TheVariants.{Admitted, Throttled, QuotaExceeded}
use Rattle.usage_plans.specs.declared.tally.GrantRefusal.{GrantRefusal}
use Rattle.usage_plans.specs.declared.tally.GrantRefusal.TheVariants.{NoQuota, TooLarge}

-- The bucket of a row under a throttle of this version, as it stands at t: the row's own, where it was filled under this version, else a
-- full one.
abbrev pub bucket_under : ℕ → Throttle → Tally → ℕ → Bucket
bucket_under version throttle tally t = if tally.version == version then tally.bucket else full_bucket throttle t

-- the level at t, where the plan has a throttle
abbrev pub level_under : Terms → Tally → ℕ → Option ℕ
level_under terms tally t =
    option_map (λ throttle. level_at throttle (bucket_under terms.version throttle tally t) t) terms.throttle

-- there is a level, and an admission would take more
abbrev pub is_spent : Option ℕ → Bool
is_spent None = false
is_spent (Some level) = nat_lt level 1000

-- the level that an admission leaves
abbrev pub level_taken : Option ℕ → Option ℕ
level_taken level = option_map (λ l. l - 1000) level

-- the row that is written at t: its level is 0 where there is none
abbrev pub written : Terms → Option ℕ → ℕ → Allowance → Tally
written terms level t allowance =
    record { bucket = record { level = unwrap_or level 0; at = t }; version = terms.version; allowance = allowance }

abbrev pub one_used : Allowance → Allowance
one_used allowance = record allowance { used = allowance.used + 1 }

abbrev pub more_allowed : ℕ → Allowance → Allowance
more_allowed amount allowance = record allowance { allowance = allowance.allowance + amount }

-- all that is allowed of the period is used
abbrev pub is_used_up : Option Allowance → Bool
is_used_up None = false
is_used_up (Some standing) = nat_le standing.allowance standing.used

-- a call whose bucket is not spent, by what stands of its period: without a period the row's own numbers stay
abbrev pub counted : Terms → Option ℕ → ℕ → Allowance → Option Allowance → Admission
counted terms level t own None = Admitted (written terms (level_taken level) t own)
counted terms level t own (Some standing) =
    if nat_le standing.allowance standing.used then QuotaExceeded standing.allowance standing.used
    else Admitted (written terms (level_taken level) t (one_used standing))

-- What a call comes to by the level and what stands: the bucket refuses before the quota does.
abbrev pub decided : Terms → Option ℕ → Option Allowance → Allowance → ℕ → Admission
decided terms level standing own t =
    if is_spent level then Throttled (unwrap_or level 0) else counted terms level t own standing

-- WHAT A CALL COMES TO AT t
abbrev pub admission_of : Terms → Tally → ℕ → Admission
admission_of terms tally t =
    decided terms (level_under terms tally t) (allowance_at tally.allowance terms.quota t) tally.allowance t

-- a period with so many calls more
abbrev pub enlarged_by : ℕ → Allowance → Result Allowance GrantRefusal
enlarged_by amount standing =
    if nat_le (standing.allowance + amount) MOST_UNITS then Ok (more_allowed amount standing) else Err TooLarge

-- A grant adds to the period that stands, and brings the level up to date.
abbrev pub decided_grant : Terms → Option ℕ → Option Allowance → ℕ → ℕ → Result Tally GrantRefusal
decided_grant terms level None amount t = Err NoQuota
decided_grant terms level (Some standing) amount t =
    result_map_both (λ allowance. written terms level t allowance) (λ refusal. refusal) (enlarged_by amount standing)

-- WHAT A GRANT COMES TO AT t
abbrev pub grant_of : Terms → Tally → ℕ → ℕ → Result Tally GrantRefusal
grant_of terms tally amount t =
    decided_grant terms (level_under terms tally t) (allowance_at tally.allowance terms.quota t) amount t

-- a key that joins has no period
abbrev pub no_allowance : Allowance
no_allowance = record { period = None; allowance = 0; used = 0; first = true }

-- the row of a key that joins at t: a full bucket
abbrev pub joined_at : Terms → ℕ → Tally
joined_at terms t = written terms (option_map capacity terms.throttle) t no_allowance

-- a level under this version of the throttle is full at most
abbrev pub IsFilled : Terms → Tally → Type 0
IsFilled terms tally = tally.version ≡ terms.version → IfSome terms.throttle (λ throttle. tally.bucket.level ≤ capacity throttle)

-- the period of the row does not begin behind t, and no more is used in it than is allowed
pub record IsCounted (allowance : Allowance) (t : ℕ) : Type 0 where
  pub begun : IfSome allowance.period (λ period. begin_of period ≤ t)
  pub within : allowance.used ≤ allowance.allowance
  pub bounded : allowance.allowance ≤ MOST_UNITS

-- a row that may stand at t under these terms
pub record IsTally (terms : Terms) (tally : Tally) (t : ℕ) : Type 0 where
  pub filled : IsFilled terms tally
  pub later : tally.bucket.at ≤ t
  pub counted : IsCounted tally.allowance t

-- a call that is admitted leaves a row that may stand
abbrev pub IsAdmittedSo : Terms → ℕ → Admission → Type 0
IsAdmittedSo terms t (Admitted tally) = IsTally terms tally t
IsAdmittedSo terms t (Throttled level) = Unit {0}
IsAdmittedSo terms t (QuotaExceeded allowance used) = Unit {0}
