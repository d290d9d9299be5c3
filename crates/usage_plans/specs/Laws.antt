-- What the numbers that are kept show, whatever befell a row.
use Rattle.std.specs.Prelude.{◌≡◌, ℕ, ◌≤◌, ◌<◌, List, map, Option, IfSome}
use Rattle.usage_meter.specs.declared.period.TheConstants.{YEAR_2100}
use Rattle.usage_meter.specs.declared.period.Period.{Period}
use Rattle.usage_meter.specs.declared.allowance.Allowance.{Allowance}
use Rattle.usage_meter.specs.declared.allowance.Quota.{Quota}
use Rattle.usage_meter.specs.declared.throttle.Throttle.{Throttle}
use Rattle.usage_plans.specs.declared.terms.Terms.{Terms}
use Rattle.usage_plans.specs.declared.tally.Tally.{Tally}
use Rattle.usage_meter.specs.Allowances.{allowance_at}
use Rattle.usage_meter.specs.Periods.{number_at}
use Rattle.usage_meter.specs.Windows.{AreInOrder}
use Rattle.usage_plans.specs.Tallies.{IsFilled, IsTally, level_under, decided, decided_grant, admission_of, grant_of}
use Rattle.usage_plans.specs.Deeds.{Account, Event, account_after, receipts_of, terms_by, level_by, standing_by, terms_put, used_by, allowed_by}

-- the period of a row does not lie behind its moment, and no more is used in it than is allowed; without one nothing is
pub record IsOpened (allowance : Allowance) (t : ℕ) : Type 0 where
  pub begun : IfSome allowance.period (λ period. period.number ≤ number_at period.kind t)
  pub within : allowance.used ≤ allowance.allowance

-- the row and the plan that a session may open with
pub record IsOpening (account : Account) : Type 0 where
  pub version : account.tally.version ≤ account.terms.version
  pub filled : IsFilled account.terms account.tally
  pub opened : IsOpened account.tally.allowance account.tally.bucket.at

-- time never falls, up to t, which is before the year 2100
pub record AreTimely (opening : Account) (events : List Event) (t : ℕ) : Type 0 where
  pub order : AreInOrder opening.tally.bucket.at (map (λ e. e.at) events) t
  pub early : t < YEAR_2100

-- THE LEVEL that is kept is the least over all windows of admissions since the bucket began
abbrev pub LevelIsLeast : Type 0
LevelIsLeast =
    (opening : Account) (events : List Event) (t : ℕ) → IsOpening opening → AreTimely opening events t
    → level_under (account_after opening events).terms (account_after opening events).tally t
    ≡ level_by opening (receipts_of opening events) t

-- THE COUNTS that are kept are those of the admissions and the grants that are charged to the period
abbrev pub CountsAreConserved : Type 0
CountsAreConserved =
    (opening : Account) (events : List Event) (t : ℕ) → IsOpening opening → AreTimely opening events t
    → allowance_at (account_after opening events).tally.allowance (account_after opening events).terms.quota t
    ≡ standing_by opening (receipts_of opening events) t

-- NO PERIOD is used beyond what it allows
abbrev pub NoneIsOverused : Type 0
NoneIsOverused =
    (opening : Account) (events : List Event) (p : Period) → IsOpening opening
    → used_by opening (receipts_of opening events) p ≤ allowed_by opening (receipts_of opening events) p

-- A CALL is refused exactly by these numbers, and a grant too
abbrev pub RefusalsAreExact : Type 0
RefusalsAreExact =
    (opening : Account) (events : List Event) (t : ℕ) → IsOpening opening → AreTimely opening events t
    → admission_of (account_after opening events).terms (account_after opening events).tally t
    ≡ decided (terms_by opening (receipts_of opening events)) (level_by opening (receipts_of opening events) t) (standing_by opening (receipts_of opening events) t) (account_after opening events).tally.allowance t

abbrev pub GrantsAreExact : Type 0
GrantsAreExact =
    (opening : Account) (events : List Event) (amount t : ℕ) → IsOpening opening → AreTimely opening events t
    → grant_of (account_after opening events).terms (account_after opening events).tally amount t
    ≡ decided_grant (terms_by opening (receipts_of opening events)) (level_by opening (receipts_of opening events) t) (standing_by opening (receipts_of opening events) t) amount t

-- A ROW may stand at any later moment too
abbrev pub RowsStandOn : Type 0
RowsStandOn = (terms : Terms) (tally : Tally) (x t : ℕ) → x ≤ t → IsTally terms tally x → IsTally terms tally t

-- A ROW still may stand where its plan is put anew
abbrev pub RowsOutlastPlans : Type 0
RowsOutlastPlans =
    (terms : Terms) (tally : Tally) (throttle : Option Throttle) (quota : Option Quota) (t : ℕ)
    → tally.version ≤ terms.version → IsTally terms tally t → IsTally (terms_put terms throttle quota) tally t
