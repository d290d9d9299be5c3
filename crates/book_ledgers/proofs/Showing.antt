-- The laws of usage plans hold of the rows of the tables.
use Rattle.std.proofs.Common.{◌≡◌, ◌∙◌, sym, ap, subst, ℕ, List, Some, None, option_map}
use Rattle.keeper_core.specs.Lists.{Lists}
use Rattle.usage_meter.specs.Allowances.{allowance_at}
use Rattle.usage_plans.proofs.Counting.{none-overused}
use Rattle.usage_plans.proofs.Showing.{counts-conserved, grants-exact, level-is-least, refusals-exact}
use Rattle.usage_plans.specs.Deeds.{Account, level_by, receipts_of, standing_by, terms_by}
use Rattle.usage_plans.specs.Tallies.{admission_of, decided, decided_grant, grant_of, level_under}
use Rattle.book_rules.specs.Good.{bad_row}
use Rattle.book_rules.specs.declared.events.Entry.{Entry}
use Rattle.book_ledgers.specs.Ledgers.{Ledger, balance}
use Rattle.book_ledgers.specs.Laws.{RefusalsAreExact, GrantsAreExact, IsHeld, IsLedger, LevelsAreLeast, NoPeriodIsOverused, CountsAreConserved}
use Rattle.book_ledgers.proofs.Following.{rows_follow}
use Rattle.book_ledgers.proofs.Ordering.{in_order, may_open}

some_same : {A : Type 0} (a b : A) → Some a ≡ Some b → a ≡ b
some_same a b same = cc

-- the account that the tables hold is what its ledger comes to
is_balance : (opening : Lists) (history : List Entry) (plan key : List ℕ) (account : Account) (ledger : Ledger) → bad_row opening ≡ None
    → IsHeld opening history plan key account → IsLedger opening history plan key ledger → balance ledger ≡ account
is_balance opening history plan key account ledger good held is =
    some_same (balance ledger) account (ap (option_map balance) (sym is) ∙ sym (rows_follow opening history plan key good) ∙ held)

pub levels_least : LevelsAreLeast
levels_least opening history plan key account ledger t now held is =
    let ok = in_order opening history plan key ledger t now is in
    subst (λ (a : Account). level_under a.terms a.tally t ≡ level_by ledger.opening (receipts_of ledger.opening ledger.events) t)
    (is_balance opening history plan key account ledger now.good held is) (level-is-least ledger.opening ledger.events t ok.0 ok.1)

pub counts_conserved : CountsAreConserved
counts_conserved opening history plan key account ledger t now held is =
    let ok = in_order opening history plan key ledger t now is in
    subst (λ (a : Account). allowance_at a.tally.allowance a.terms.quota t ≡ standing_by ledger.opening (receipts_of ledger.opening ledger.events) t)
    (is_balance opening history plan key account ledger now.good held is) (counts-conserved ledger.opening ledger.events t ok.0 ok.1)

pub none_overused : NoPeriodIsOverused
none_overused opening history plan key ledger p good is = none-overused ledger.opening ledger.events p (may_open opening history plan key ledger good is)

pub refusals_exact : RefusalsAreExact
refusals_exact opening history plan key account ledger t now held is =
    let ok = in_order opening history plan key ledger t now is in
    subst (λ (a : Account). admission_of a.terms a.tally t
    ≡ decided (terms_by ledger.opening (receipts_of ledger.opening ledger.events)) (level_by ledger.opening (receipts_of ledger.opening ledger.events) t)
    (standing_by ledger.opening (receipts_of ledger.opening ledger.events) t) a.tally.allowance t)
    (is_balance opening history plan key account ledger now.good held is) (refusals-exact ledger.opening ledger.events t ok.0 ok.1)

pub grants_exact : GrantsAreExact
grants_exact opening history plan key account ledger amount t now held is =
    let ok = in_order opening history plan key ledger t now is in
    subst (λ (a : Account). grant_of a.terms a.tally amount t
    ≡ decided_grant (terms_by ledger.opening (receipts_of ledger.opening ledger.events)) (level_by ledger.opening (receipts_of ledger.opening ledger.events) t)
    (standing_by ledger.opening (receipts_of ledger.opening ledger.events) t) amount t)
    (is_balance opening history plan key account ledger now.good held is) (grants-exact ledger.opening ledger.events amount t ok.0 ok.1)
