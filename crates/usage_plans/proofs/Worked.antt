-- What the definitions compute: worked days of a key.
use Rattle.std.proofs.Common.{◌≡◌, refl, ℕ, true, false, List, [], ◌∷◌, Option, Some, None}
use Rattle.usage_meter.specs.declared.allowance.Quota.{Quota}
use Rattle.usage_meter.specs.declared.allowance.Allowance.{Allowance}
use Rattle.usage_meter.specs.declared.period.PeriodKind.TheVariants.{Day}
use Rattle.usage_meter.specs.Allowances.{allowance_at}
use Rattle.usage_plans.specs.declared.terms.Terms.{Terms}
use Rattle.usage_plans.specs.declared.tally.Admission.{Admission}
use Rattle.usage_plans.specs.declared.tally.Admission.TheVariants.{Admitted, Throttled, QuotaExceeded}
use Rattle.usage_plans.specs.Tallies.{joined_at, admission_of}
use Rattle.usage_plans.specs.Deeds.{Account, Deed, Event, account_after, receipts_of, level_by}
use Rattle.usage_plans.specs.Deeds.Deed.{call, grant, put}

abbrev throttled_terms : Terms
throttled_terms = record { throttle = Some (record { rate = 1; burst = 2 }); version = 0; quota = None }

abbrev daily : ℕ → ℕ → Option Quota
daily limit offset = Some (record { limit = limit; offset = offset; kind = Day })

abbrev daily_terms : ℕ → ℕ → Terms
daily_terms limit offset = record { throttle = None; version = 0; quota = daily limit offset }

abbrev joined : Terms → Account
joined terms = record { terms = terms; tally = joined_at terms 0 }

abbrev kept : ℕ → Deed → Event
kept t deed = record { at = t; deed = deed; kept = true }

-- what a call comes to behind these events, the newest first
abbrev asked : Account → List Event → ℕ → Admission
asked opening events t = admission_of (account_after opening events).terms (account_after opening events).tally t

abbrev told : Account → List Event → ℕ → Option Allowance
told opening events t = allowance_at (account_after opening events).tally.allowance (account_after opening events).terms.quota t

-- one admission a second, two at once: the third call at 0 is refused, and so is one at 999
spent-at-once : asked (joined throttled_terms) (kept 0 call ∷ kept 0 call ∷ []) 0 ≡ Throttled 0
spent-at-once = refl

spent-at-999 : asked (joined throttled_terms) (kept 0 call ∷ kept 0 call ∷ []) 999 ≡ Throttled 999
spent-at-999 = refl

spent-behind-1000 : asked (joined throttled_terms) (kept 1000 call ∷ kept 0 call ∷ kept 0 call ∷ []) 1000 ≡ Throttled 0
spent-behind-1000 = refl

-- the least over all windows is the same
least-at-999 : level_by (joined throttled_terms) (receipts_of (joined throttled_terms) (kept 0 call ∷ kept 0 call ∷ [])) 999 ≡ Some 999
least-at-999 = refl

-- three calls a day, one less on the first
used-up : asked (joined (daily_terms 3 1)) (kept 0 call ∷ kept 0 call ∷ []) 86399999 ≡ QuotaExceeded 2 2
used-up = refl

next-day : told (joined (daily_terms 3 1)) (kept 86400000 call ∷ kept 0 call ∷ kept 0 call ∷ []) 86400000
    ≡ Some (record { period = Some (record { kind = Day; number = 1 }); allowance = 3; used = 1; first = false })
next-day = refl

-- a quota that is changed counts from the next period
changed-later : asked (joined (daily_terms 5 0)) (kept 0 call ∷ kept 0 call ∷ kept 0 (put None (daily 2 0)) ∷ kept 0 call ∷ kept 0 call ∷ kept 0 call ∷ []) 0 ≡ QuotaExceeded 5 5
changed-later = refl

changed-next-day : asked (joined (daily_terms 5 0)) (kept 86400000 call ∷ kept 86400000 call ∷ kept 0 (put None (daily 2 0)) ∷ kept 0 call ∷ []) 86400000 ≡ QuotaExceeded 2 2
changed-next-day = refl

-- a grant adds to the period that stands, and to no later one
granted-today : told (joined (daily_terms 5 0)) (kept 0 (grant 2) ∷ kept 0 call ∷ []) 0
    ≡ Some (record { period = Some (record { kind = Day; number = 0 }); allowance = 7; used = 1; first = true })
granted-today = refl

granted-not-tomorrow : told (joined (daily_terms 5 0)) (kept 0 (grant 2) ∷ kept 0 call ∷ []) 86400000
    ≡ Some (record { period = Some (record { kind = Day; number = 1 }); allowance = 5; used = 0; first = false })
granted-not-tomorrow = refl

-- what is not kept spends nothing
lost-call : told (joined (daily_terms 3 0)) (kept 0 call ∷ record { at = 0; deed = call; kept = false } ∷ []) 0
    ≡ Some (record { period = Some (record { kind = Day; number = 0 }); allowance = 3; used = 1; first = true })
lost-call = refl

-- a changed throttle starts a full bucket, an equal one does not
refilled : asked (joined throttled_terms) (kept 0 (put (Some (record { rate = 1; burst = 1 })) None) ∷ kept 0 call ∷ kept 0 call ∷ []) 0
    ≡ Admitted (record { bucket = record { level = 0; at = 0 }; version = 1; allowance = record { period = None; allowance = 0; used = 0; first = true } })
refilled = refl

kept-level : asked (joined throttled_terms) (kept 0 (put (Some (record { rate = 1; burst = 2 })) (daily 9 0)) ∷ kept 0 call ∷ kept 0 call ∷ []) 0 ≡ Throttled 0
kept-level = refl
