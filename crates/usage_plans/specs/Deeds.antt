-- What befalls a row, and what its numbers are by all that befell it, whatever numbers were kept.
use Rattle.std.specs.Prelude.{ℕ, ◌+◌, ◌-◌, ◌==◌, nat_le, Bool, true, false, ◌&&◌, ◌||◌, List, [], ◌∷◌, Option, Some, None, is_none, option_map, Result, Ok, Err, if◌then◌else◌}
use Rattle.usage_meter.specs.declared.throttle.Throttle.{Throttle}
use Rattle.usage_meter.specs.declared.throttle.Bucket.{Bucket}
use Rattle.usage_meter.specs.declared.allowance.Quota.{Quota}
use Rattle.usage_meter.specs.declared.allowance.Allowance.{Allowance}
use Rattle.usage_meter.specs.declared.period.Period.{Period}
use Rattle.usage_meter.specs.declared.period.PeriodKind.{PeriodKind}
use Rattle.usage_meter.specs.declared.period.PeriodKind.TheVariants.{Day, Week, Month}
use Rattle.usage_meter.specs.Windows.{full_bucket, level_over}
use Rattle.usage_meter.specs.Periods.{period_at, is_standing}
use Rattle.usage_plans.specs.Tallies.{bucket_under, is_spent, is_used_up, admission_of, grant_of}
use Rattle.usage_plans.specs.declared.terms.TheConstants.{MOST_UNITS}
use Rattle.usage_plans.specs.declared.terms.Terms.{Terms}
use Rattle.usage_plans.specs.declared.tally.Tally.{Tally}
use Rattle.usage_plans.specs.declared.tally.Admission.{Admission}
use Rattle.usage_plans.specs.declared.tally.Admission.TheVariants.{Admitted, Throttled, QuotaExceeded}
use Rattle.usage_plans.specs.declared.tally.GrantRefusal.{GrantRefusal}

-- the terms of a plan, and the row of a key that joined it
pub record Account : Type 0 where
  pub terms : Terms
  pub tally : Tally

-- a call, a grant of so many calls, and a plan that is put anew with this throttle and this quota
pub data Deed : Type 0 where
  call : Deed
  grant : ℕ → Deed
  put : Option Throttle → Option Quota → Deed

-- what befalls a row at a moment, and whether it was kept where it changes something
pub record Event : Type 0 where
  pub at : ℕ
  pub deed : Deed
  pub kept : Bool

-- A RECEIPT: an admission or a grant, with the period to which it is charged, or the terms under which the plan was put anew
pub data What : Type 0 where
  admission : Option Period → What
  granted : ℕ → Period → What
  revised : Terms → What

pub record Receipt : Type 0 where
  pub at : ℕ
  pub what : What

-- a plan that is put anew: a throttle that differs raises its version
abbrev pub same_throttle : Option Throttle → Option Throttle → Bool
same_throttle None None = true
same_throttle None (Some new) = false
same_throttle (Some old) None = false
same_throttle (Some old) (Some new) = (old.rate == new.rate) && (old.burst == new.burst)

abbrev pub terms_put : Terms → Option Throttle → Option Quota → Terms
terms_put old throttle quota =
    record {
      throttle = throttle;
      version = if same_throttle old.throttle throttle then old.version else old.version + 1;
      quota = quota;
    }

-- Below, receipts stand with the newest first, over the account that the row opened with.

abbrev pub terms_with : What → Terms → Terms
terms_with (admission charged) older = older
terms_with (granted amount period) older = older
terms_with (revised terms) older = terms

-- the terms of the plan
abbrev pub terms_by : Account → List Receipt → Terms
terms_by opening [] = opening.terms
terms_by opening (r ∷ rs) = terms_with r.what (terms_by opening rs)

-- THE BUCKET: it begins with the opening row, or full where the throttle was changed, which raises its version
abbrev pub begun_with : Throttle → ℕ → ℕ → What → Bucket → Bucket
begun_with throttle at version (admission charged) older = older
begun_with throttle at version (granted amount period) older = older
begun_with throttle at version (revised terms) older = if terms.version == version then older else full_bucket throttle at

abbrev pub begun_by : Throttle → Account → List Receipt → Bucket
begun_by throttle opening [] = bucket_under opening.terms.version throttle opening.tally opening.tally.bucket.at
begun_by throttle opening (r ∷ rs) = begun_with throttle r.at (terms_by opening rs).version r.what (begun_by throttle opening rs)

abbrev pub taken_with : ℕ → ℕ → What → List ℕ → List ℕ
taken_with at version (admission charged) older = at ∷ older
taken_with at version (granted amount period) older = older
taken_with at version (revised terms) older = if terms.version == version then older else []

-- the moments of the admissions since it began
abbrev pub taken_by : Account → List Receipt → List ℕ
taken_by opening [] = []
taken_by opening (r ∷ rs) = taken_with r.at (terms_by opening rs).version r.what (taken_by opening rs)

-- THE LEVEL at t: the least over all windows of these admissions
abbrev pub level_by : Account → List Receipt → ℕ → Option ℕ
level_by opening rs t =
    option_map (λ throttle. level_over throttle (begun_by throttle opening rs) (taken_by opening rs) t) (terms_by opening rs).throttle

-- periods
abbrev pub kind_number : PeriodKind → ℕ
kind_number Day = 1
kind_number Week = 2
kind_number Month = 3

abbrev pub same_period : Period → Period → Bool
same_period p q = (kind_number p.kind == kind_number q.kind) && (p.number == q.number)

abbrev pub is_of : Period → Option Period → Bool
is_of p None = false
is_of p (Some q) = same_period p q

abbrev pub charged_of : What → Option Period
charged_of (admission charged) = charged
charged_of (granted amount period) = Some period
charged_of (revised terms) = None

abbrev pub or_older : Option Period → Option Period → Option Period
or_older None older = older
or_older (Some p) older = Some p

-- the period that was charged last
abbrev pub own_by : Account → List Receipt → Option Period
own_by opening [] = opening.tally.allowance.period
own_by opening (r ∷ rs) = or_older (charged_of r.what) (own_by opening rs)

-- THE PERIOD at t: that one, as long as it lasts, and else one of the quota's kind
abbrev pub period_by : Account → List Receipt → ℕ → Option Period
period_by opening rs t =
    if is_standing (own_by opening rs) t then own_by opening rs
    else option_map (λ quota. period_at quota.kind t) (terms_by opening rs).quota

-- whether the period was opened
abbrev pub is_open : Account → List Receipt → Period → Bool
is_open opening [] p = is_of p opening.tally.allowance.period
is_open opening (r ∷ rs) p = is_of p (charged_of r.what) || is_open opening rs p

-- ITS COUNT: the admissions that are charged to it, behind those of the opening row
abbrev pub one_more : Period → What → ℕ → ℕ
one_more p (admission charged) older = if is_of p charged then older + 1 else older
one_more p (granted amount period) older = older
one_more p (revised terms) older = older

abbrev pub used_by : Account → List Receipt → Period → ℕ
used_by opening [] p = if is_of p opening.tally.allowance.period then opening.tally.allowance.used else 0
used_by opening (r ∷ rs) p = one_more p r.what (used_by opening rs p)

-- what a period allows that is opened under the quota: the limit, less the offset where it is the row's first
abbrev pub opens_with : Option Quota → Bool → ℕ
opens_with None first = 0
opens_with (Some quota) first = quota.limit - (if first then quota.offset else 0)

abbrev pub more_granted : Period → What → ℕ → ℕ
more_granted p (admission charged) older = older
more_granted p (granted amount period) older = if same_period p period then older + amount else older
more_granted p (revised terms) older = older

-- ITS ALLOWANCE: what it was opened with, and the grants that are charged to it; for one that is not open yet, what it would open with
abbrev pub allowed_by : Account → List Receipt → Period → ℕ
allowed_by opening [] p =
    if is_of p opening.tally.allowance.period then opening.tally.allowance.allowance
    else opens_with opening.terms.quota (is_none opening.tally.allowance.period)
allowed_by opening (r ∷ rs) p =
    if is_open opening (r ∷ rs) p then more_granted p r.what (allowed_by opening rs p)
    else opens_with (terms_by opening (r ∷ rs)).quota (is_none (own_by opening (r ∷ rs)))

-- whether it is the row's first
abbrev pub first_with : Bool → Option Period → Bool → Bool → Bool
first_with again None first only = first
first_with again (Some p) first only = if again then first else only

abbrev pub is_open_too : Account → List Receipt → Option Period → Bool
is_open_too opening rs None = false
is_open_too opening rs (Some p) = is_open opening rs p

abbrev pub first_by : Account → List Receipt → Bool
first_by opening [] = opening.tally.allowance.first
first_by opening (r ∷ rs) =
    first_with (is_open_too opening rs (charged_of r.what)) (charged_of r.what) (first_by opening rs) (is_none (own_by opening rs))

abbrev pub counts_of : Account → List Receipt → Period → Allowance
counts_of opening rs p =
    record {
      period = Some p;
      allowance = allowed_by opening rs p;
      used = used_by opening rs p;
      first = if is_open opening rs p then first_by opening rs else is_none (own_by opening rs);
    }

-- WHAT IS ALLOWED AND USED at t
abbrev pub standing_by : Account → List Receipt → ℕ → Option Allowance
standing_by opening rs t = option_map (counts_of opening rs) (period_by opening rs t)

-- WHAT IS RECEIVED: a call is admitted where neither the bucket is spent nor the period used up
abbrev pub call_receipts : Account → List Receipt → ℕ → List Receipt
call_receipts opening rs t =
    if is_spent (level_by opening rs t) || is_used_up (standing_by opening rs t) then rs
    else record { at = t; what = admission (period_by opening rs t) } ∷ rs

abbrev pub grant_receipts : Account → List Receipt → ℕ → ℕ → Option Period → List Receipt
grant_receipts opening rs amount t None = rs
grant_receipts opening rs amount t (Some p) =
    if nat_le (allowed_by opening rs p + amount) MOST_UNITS then record { at = t; what = granted amount p } ∷ rs else rs

abbrev pub deed_receipts : Account → List Receipt → ℕ → Deed → List Receipt
deed_receipts opening rs t call = call_receipts opening rs t
deed_receipts opening rs t (grant amount) = grant_receipts opening rs amount t (period_by opening rs t)
deed_receipts opening rs t (put throttle quota) =
    record { at = t; what = revised (terms_put (terms_by opening rs) throttle quota) } ∷ rs

-- the receipts of what befell a row, the newest first: what is not kept leaves none
abbrev pub receipts_of : Account → List Event → List Receipt
receipts_of opening [] = []
receipts_of opening (e ∷ es) =
    if e.kept then deed_receipts opening (receipts_of opening es) e.at e.deed else receipts_of opening es

-- THE ROW THAT IS KEPT: one level and one count, brought up to date at each admission and at each grant
abbrev pub tally_after_call : Tally → Admission → Tally
tally_after_call tally (Admitted new) = new
tally_after_call tally (Throttled level) = tally
tally_after_call tally (QuotaExceeded allowance used) = tally

abbrev pub tally_after_grant : Tally → Result Tally GrantRefusal → Tally
tally_after_grant tally (Ok new) = new
tally_after_grant tally (Err refusal) = tally

abbrev pub account_with : Account → ℕ → Deed → Account
account_with account t call =
    record account { tally = tally_after_call account.tally (admission_of account.terms account.tally t) }
account_with account t (grant amount) =
    record account { tally = tally_after_grant account.tally (grant_of account.terms account.tally amount t) }
account_with account t (put throttle quota) = record account { terms = terms_put account.terms throttle quota }

abbrev pub account_after : Account → List Event → Account
account_after opening [] = opening
account_after opening (e ∷ es) =
    if e.kept then account_with (account_after opening es) e.at e.deed else account_after opening es
