-- What holds of every ledger and of the rows of the tables, over any history from tables that a book starts from.
use Rattle.std.specs.Prelude.{◌≡◌, ℕ, ◌≤◌, ◌<◌, List, reverse, Some, None}
use Rattle.keeper_core.specs.Lists.{Lists}
use Rattle.usage_meter.specs.Allowances.{allowance_at}
use Rattle.usage_meter.specs.declared.period.TheConstants.{YEAR_2100}
use Rattle.usage_meter.specs.declared.period.Period.{Period}
use Rattle.usage_plans.specs.Deeds.{Account, allowed_by, level_by, receipts_of, standing_by, terms_by, used_by}
use Rattle.usage_plans.specs.Laws.{AreTimely, IsOpening}
use Rattle.usage_plans.specs.Tallies.{admission_of, decided, decided_grant, grant_of, level_under}
use Rattle.book_rules.specs.Good.{bad_row}
use Rattle.book_rules.specs.History.{state_after, tables_after}
use Rattle.book_rules.specs.declared.events.Entry.{Entry}
use Rattle.book_ledgers.specs.Ledgers.{Ledger, account_in, ledger_by}

-- a history over tables that a book starts from, and a moment that is not before its latest, and before the year 2100
pub record IsNow (opening : Lists) (history : List Entry) (t : ℕ) : Type 0 where
  pub good : bad_row opening ≡ None
  pub latest : (state_after opening history).latest ≤ t
  pub early : t < YEAR_2100

-- the ledger of a plan and a key after the history
abbrev pub IsLedger : Lists → List Entry → List ℕ → List ℕ → Ledger → Type 0
IsLedger opening history plan key ledger = ledger_by opening (reverse history) plan key ≡ Some ledger

-- the account that the tables hold after the history
abbrev pub IsHeld : Lists → List Entry → List ℕ → List ℕ → Account → Type 0
IsHeld opening history plan key account = account_in (tables_after opening history) plan key ≡ Some account

-- THE LATEST MOMENT is before the year 2100
abbrev pub LatestIsEarly : Type 0
LatestIsEarly = (opening : Lists) (history : List Entry) → bad_row opening ≡ None → (state_after opening history).latest < YEAR_2100

-- LEDGERS ARE IN ORDER: each begins with a row that may open, and in it time never falls
abbrev pub LedgersAreInOrder : Type 0
LedgersAreInOrder =
    (opening : Lists) (history : List Entry) (plan key : List ℕ) (ledger : Ledger) (t : ℕ)
    → IsNow opening history t → IsLedger opening history plan key ledger
    → IsOpening ledger.opening × AreTimely ledger.opening ledger.events t

-- THE LEVEL of a row is the least over all windows of admissions
abbrev pub LevelsAreLeast : Type 0
LevelsAreLeast =
    (opening : Lists) (history : List Entry) (plan key : List ℕ) (account : Account) (ledger : Ledger) (t : ℕ)
    → IsNow opening history t → IsHeld opening history plan key account → IsLedger opening history plan key ledger
    → level_under account.terms account.tally t ≡ level_by ledger.opening (receipts_of ledger.opening ledger.events) t

-- ITS COUNTS are those of the admissions and the grants that are charged to the period
abbrev pub CountsAreConserved : Type 0
CountsAreConserved =
    (opening : Lists) (history : List Entry) (plan key : List ℕ) (account : Account) (ledger : Ledger) (t : ℕ)
    → IsNow opening history t → IsHeld opening history plan key account → IsLedger opening history plan key ledger
    → allowance_at account.tally.allowance account.terms.quota t ≡ standing_by ledger.opening (receipts_of ledger.opening ledger.events) t

-- NO PERIOD is used beyond what it allows, neither the one that stands nor any that is over
abbrev pub NoPeriodIsOverused : Type 0
NoPeriodIsOverused =
    (opening : Lists) (history : List Entry) (plan key : List ℕ) (ledger : Ledger) (p : Period)
    → bad_row opening ≡ None → IsLedger opening history plan key ledger
    → used_by ledger.opening (receipts_of ledger.opening ledger.events) p ≤ allowed_by ledger.opening (receipts_of ledger.opening ledger.events) p

-- A CALL is refused exactly by these numbers, and a grant too
abbrev pub RefusalsAreExact : Type 0
RefusalsAreExact =
    (opening : Lists) (history : List Entry) (plan key : List ℕ) (account : Account) (ledger : Ledger) (t : ℕ)
    → IsNow opening history t → IsHeld opening history plan key account → IsLedger opening history plan key ledger
    → admission_of account.terms account.tally t
    ≡ decided (terms_by ledger.opening (receipts_of ledger.opening ledger.events)) (level_by ledger.opening (receipts_of ledger.opening ledger.events) t)
    (standing_by ledger.opening (receipts_of ledger.opening ledger.events) t) account.tally.allowance t

abbrev pub GrantsAreExact : Type 0
GrantsAreExact =
    (opening : Lists) (history : List Entry) (plan key : List ℕ) (account : Account) (ledger : Ledger) (amount t : ℕ)
    → IsNow opening history t → IsHeld opening history plan key account → IsLedger opening history plan key ledger
    → grant_of account.terms account.tally amount t
    ≡ decided_grant (terms_by ledger.opening (receipts_of ledger.opening ledger.events)) (level_by ledger.opening (receipts_of ledger.opening ledger.events) t)
    (standing_by ledger.opening (receipts_of ledger.opening ledger.events) t) amount t
