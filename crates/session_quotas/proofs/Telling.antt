-- The usage that is told is what the ledger of the plan and the key comes to.
use Rattle.std.proofs.Common.{◌≡◌, ◌∙◌, sym, ap, refl, ℕ, Bool, List, Option, Some, None, reverse}
use Rattle.keeper_core.specs.Lists.{Lists, join_row, plan_row}
use Rattle.keeper_core.specs.declared.rows.JoinRow.{JoinRow}
use Rattle.keeper_core.specs.declared.rows.PlanRow.{PlanRow}
use Rattle.usage_meter.specs.Allowances.{allowance_at}
use Rattle.usage_meter.specs.declared.allowance.Allowance.{Allowance}
use Rattle.usage_meter.specs.declared.period.Period.{Period}
use Rattle.usage_plans.specs.Deeds.{Account}
use Rattle.usage_plans.specs.Rows.{tally_in, terms_in}
use Rattle.book_rules.specs.Good.{bad_row}
use Rattle.book_rules.specs.History.{reply, state_after}
use Rattle.book_rules.specs.Machine.{time_of}
use Rattle.book_rules.specs.PlanCommands.{usage, usage_by, usage_shown, used_of}
use Rattle.book_rules.specs.declared.events.Entry.{Entry}
use Rattle.book_rules.specs.declared.events.Event.{Event}
use Rattle.book_rules.specs.declared.replies.Reply.{Reply}
use Rattle.book_ledgers.specs.Ledgers.{RowsFollowTheirLedgers, account_of, ledger_by}
use Rattle.book_ledgers.specs.Laws.{CountsAreConserved, IsHeld, IsNow, LatestIsEarly}
use Rattle.session_quotas.proofs.Calling.{said, some_same, time_early, time_least}
use Rattle.session_quotas.proofs.Showing.{has_ledger}
use Rattle.session_quotas.specs.Quotas.{TellsItsLedger, UsageIsExact}

-- USAGE BY AN ACCOUNT is what stands of its period
by_account : (t : ℕ) (of : Option PlanRow) (row : Option JoinRow) (account : Account) → account_of of row ≡ Some account
    → usage_by row of t ≡ usage_shown (allowance_at account.tally.allowance account.terms.quota t)
by_account t None row account e = absurd cc
by_account t (Some of) None account e = absurd cc
by_account t (Some of) (Some row) account e =
    ap (λ (a : Account). usage_shown (allowance_at a.tally.allowance a.terms.quota t)) (some_same (record { terms = terms_in of; tally = tally_in row }) account e)

-- no row is written, so what is told is its reply
used_told : (kept : Bool) (period : Option Period) (standing : Allowance) → said kept (used_of period standing) ≡ (used_of period standing).reply
used_told kept None standing = refl
used_told kept (Some period) standing = refl

shown_told : (kept : Bool) (standing : Option Allowance) → said kept (usage_shown standing) ≡ (usage_shown standing).reply
shown_told kept None = refl
shown_told kept (Some standing) = used_told kept standing.period standing

-- SO THE USAGE TOLD IS EXACT
told_exact : RowsFollowTheirLedgers → CountsAreConserved → LatestIsEarly
    → (opening : Lists) (earlier : List Entry) (moment : ℕ) (plan key : List ℕ) (account : Account) (kept : Bool) (answer : Reply) → bad_row opening ≡ None
    → answer ≡ said kept (usage (state_after opening earlier).lists (time_of (state_after opening earlier) moment) plan key)
    → IsHeld opening earlier plan key account → TellsItsLedger opening earlier plan key (time_of (state_after opening earlier) moment) answer
told_exact follow conserved early opening earlier moment plan key account kept answer good e held =
    let s = state_after opening earlier in
    let t = time_of s moment in
    let now : IsNow opening earlier t = record { good = good; latest = time_least s moment; early = time_early s moment (early opening earlier good) } in
    let l = has_ledger (ledger_by opening (reverse earlier) plan key) account (sym held ∙ follow opening earlier plan key good) in
    let standing = allowance_at account.tally.allowance account.terms.quota t in
    record {
      ledger = l.0;
      its = l.1;
      exact = e ∙ ap (said kept) (by_account t (plan_row s.lists plan) (join_row s.lists plan key) account held) ∙ shown_told kept standing
          ∙ ap (λ o. (usage_shown o).reply) (conserved opening earlier plan key account l.0 t now held l.1);
    }

pub usage_exact : RowsFollowTheirLedgers → CountsAreConserved → LatestIsEarly → UsageIsExact
usage_exact follow conserved early base earlier entry answer moment plan key account good answers asked held =
    told_exact follow conserved early base.opening earlier moment plan key account entry.kept answer good
    (answers.reply ∙ ap (λ (event : Event). reply base.opening earlier event entry.kept) asked) held
