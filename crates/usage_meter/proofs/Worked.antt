-- What the definitions compute. The values come from a calendar and by hand.
use Rattle.std.proofs.Common.{◌≡◌, refl, ℕ, [], ◌∷◌, Some, None, true, false}
use Rattle.usage_meter.specs.declared.throttle.Throttle.{Throttle}
use Rattle.usage_meter.specs.declared.period.PeriodKind.TheVariants.{Day, Week, Month}
use Rattle.usage_meter.specs.declared.allowance.Quota.{Quota}
use Rattle.usage_meter.specs.declared.allowance.Allowance.{Allowance}
use Rattle.usage_meter.specs.Allowances.{allowance_at}
use Rattle.usage_meter.specs.Months.{month_from, month_start}
use Rattle.usage_meter.specs.Periods.{number_at, nth_begin, period_at}
use Rattle.usage_meter.specs.Windows.{full_bucket, level_over, admissions_of, bucket_after_attempts}

-- one admission a second, and two at once
slow : Throttle
slow = record { rate = 1; burst = 2 }

-- two at once leave nothing, and a millisecond brings back a thousandth
level_over-full : level_over slow (full_bucket slow 0) [] 5 ≡ 2000
unfolding slow
level_over-full = refl

level_over-two : level_over slow (full_bucket slow 0) (0 ∷ 0 ∷ []) 0 ≡ 0
unfolding slow
level_over-two = refl

level_over-soon : level_over slow (full_bucket slow 0) (0 ∷ 0 ∷ []) 999 ≡ 999
unfolding slow
level_over-soon = refl

level_over-late : level_over slow (full_bucket slow 0) (0 ∷ 0 ∷ []) 9000 ≡ 2000
unfolding slow
level_over-late = refl

-- of calls at 0, 0, 0, 999 and 1000 the first, the second and the last are admitted
admissions_of-row : admissions_of slow (full_bucket slow 0) (1000 ∷ 999 ∷ 0 ∷ 0 ∷ 0 ∷ []) ≡ 1000 ∷ 0 ∷ 0 ∷ []
unfolding slow
admissions_of-row = refl

bucket_after_attempts-row : bucket_after_attempts slow (full_bucket slow 0) (1000 ∷ 999 ∷ 0 ∷ 0 ∷ 0 ∷ []) ≡ record { level = 0; at = 1000 }
unfolding slow
bucket_after_attempts-row = refl

-- the last moment before 2100
number_at-last : number_at Month 4_102_444_799_999 ≡ 1559
unfolding month_from
number_at-last = refl

-- the ends of 29 February 2000, and of 28 February 2099
number_at-leap_day : number_at Month 951_868_799_999 ≡ 361
unfolding month_from
number_at-leap_day = refl

number_at-march : number_at Month 951_868_800_000 ≡ 362
unfolding month_from
number_at-march = refl

number_at-no_leap_day : number_at Month 4_076_006_400_000 ≡ 1550
unfolding month_from
number_at-no_leap_day = refl

nth_begin-2100 : nth_begin Month 1560 ≡ 4_102_444_800_000
unfolding month_start
nth_begin-2100 = refl

-- the end of a Sunday, and the Monday after it
number_at-sunday : number_at Week 345_599_999 ≡ 0
number_at-sunday = refl

number_at-monday : number_at Week 345_600_000 ≡ 1
number_at-monday = refl

-- the quotas of these rows
daily : ℕ → ℕ → Quota
daily limit offset = record { limit = limit; offset = offset; kind = Day }

-- a row that has had no period
fresh : Allowance
fresh = record { period = None; allowance = 0; used = 0; first = false }

-- a row of day 0
spent : Allowance
spent = record { period = Some (period_at Day 0); allowance = 90; used = 90; first = true }

-- the offset counts in the first period alone
allowance_at-first : allowance_at fresh (Some (daily 100 10)) 7 ≡ Some (record { period = Some (period_at Day 0); allowance = 90; used = 0; first = true })
unfolding fresh daily
allowance_at-first = refl

allowance_at-second : allowance_at spent (Some (daily 100 10)) 86_400_000 ≡ Some (record { period = Some (period_at Day 86_400_000); allowance = 100; used = 0; first = false })
unfolding spent daily
allowance_at-second = refl

-- and a quota that was changed counts from the next period on
allowance_at-changed : allowance_at spent (Some (daily 500 0)) 86_399_999 ≡ Some spent
unfolding spent daily
allowance_at-changed = refl

allowance_at-none : allowance_at spent None 86_400_000 ≡ None
unfolding spent
allowance_at-none = refl
