-- The rows of the tables say what the ledgers do.
use Rattle.std.proofs.Common.{◌≡◌, ◌∙◌, sym, ap, subst, refl, ℕ, ◌+◌, ◌==◌, ◌≤◌, Bool, true, false, not, ◌&&◌, List, [], ◌∷◌, reverse, Option, Some, None, IfSome, option_map, is_none, Result, Ok, Err, cond, arith}
use Rattle.std.specs.Prelude.{is_some, nat_le}
use Rattle.std.specs.Str.{bytes_eq}
use Rattle.std.proofs.lemmas.Bool.{and_parts}
use Rattle.std.proofs.lemmas.Slice.Eq.{bytes_eq-Decides}
use Rattle.keeper_core.specs.Lists.{Lists, api_row, stage_row, key_row, plan_row, join_row, put}
use Rattle.keeper_core.specs.declared.rows.Row.{Row}
use Rattle.keeper_core.specs.declared.rows.Row.TheVariants.{Meta, Api, Deployment, Stage, Key, Plan, Join}
use Rattle.keeper_core.specs.declared.rows.ApiRow.{ApiRow}
use Rattle.keeper_core.specs.declared.rows.KeyRow.{KeyRow}
use Rattle.keeper_core.specs.declared.rows.PlanRow.{PlanRow}
use Rattle.keeper_core.specs.declared.rows.JoinRow.{JoinRow}
use Rattle.keeper_core.specs.declared.rows.StageRow.{StageRow}
use Rattle.usage_meter.specs.Allowances.{allowance_at}
use Rattle.usage_meter.specs.declared.allowance.Allowance.{Allowance}
use Rattle.usage_meter.specs.declared.allowance.Quota.{Quota}
use Rattle.usage_meter.specs.declared.period.Period.{Period}
use Rattle.usage_meter.specs.declared.period.PeriodKind.{PeriodKind}
use Rattle.usage_meter.specs.declared.period.PeriodKind.TheVariants.{Day, Week, Month}
use Rattle.usage_meter.specs.declared.throttle.Throttle.{Throttle}
use Rattle.usage_plans.specs.Deeds.{Account, Deed, account_with, kind_number, tally_after_call, tally_after_grant, terms_put}
use Rattle.usage_plans.specs.Deeds.Deed.{call as called, grant as given, put as anew}
use Rattle.usage_plans.specs.Rows.{kind_column, kind_in, number_column, quota_in, row_with, tally_in, terms_in}
use Rattle.usage_plans.specs.Tallies.{admission_of, grant_of, joined_at}
use Rattle.usage_plans.specs.declared.tally.Admission.{Admission}
use Rattle.usage_plans.specs.declared.tally.Admission.TheVariants as admission
use Rattle.usage_plans.specs.declared.tally.GrantRefusal.{GrantRefusal}
use Rattle.usage_plans.specs.declared.tally.Tally.{Tally}
use Rattle.book_rules.specs.Admissions.{admitted_by, admitted_under, admitted_with, decided, plan_for}
use Rattle.book_rules.specs.Commands.{commanded}
use Rattle.book_rules.specs.Good.{bad_row}
use Rattle.book_rules.specs.History.{state_of, state_after}
use Rattle.book_rules.specs.Limits.{most_deployments, most_per_second}
use Rattle.book_rules.specs.Machine.{State, opened, put_kept, row_of, time_at, time_of}
use Rattle.book_rules.specs.Outcomes.{Outcome, first_refusal, says, unless, writes}
use Rattle.book_rules.specs.PlanCommands.{burst_in, granted, grant_by, is_throttle, join_anew, join_by, join_tests, key_with, kind_of_quota, limit_in, offset_in, plan_of, put_key_tests, put_plan_tests, rate_in, unused, usage_by, usage_shown, used_of}
use Rattle.book_rules.specs.StageCommands.{canary_for, deployed, deployment_by, flush, next_deployment, promote, promote_tests, put_api_tests, put_canary_tests, put_stage_tests}
use Rattle.book_rules.specs.declared.events.Command.{Command}
use Rattle.book_rules.specs.declared.events.Command.TheVariants.{PutApi, Deploy, PutStage, PutCanary, PromoteCanary, PutKey, PutPlan, JoinKey, Grant, Flush, Usage, Shutdown}
use Rattle.book_rules.specs.declared.events.Entry.{Entry}
use Rattle.book_rules.specs.declared.events.Event.{Event}
use Rattle.book_rules.specs.declared.events.Event.TheVariants.{Enter, Recall, Learn, Admit, Admin, Leave}
use Rattle.book_rules.specs.declared.replies.Refusal.{Refusal}
use Rattle.book_rules.specs.declared.replies.Refusal.TheVariants.{Full}
use Rattle.book_rules.specs.declared.replies.Reply.TheVariants.{Deployed, Done, InvalidKey, Refused}
use Rattle.book_ledgers.specs.Ledgers.{Ledger, account_of, account_in, asks_by, balance, begins, begun_by, deed_by, deed_of, is_named, joined_by, ledger_after, ledger_by, with_deed, RowsFollowTheirLedgers}
use Rattle.book_ledgers.proofs.Planned.{HavePlans, have_plans, join_put, named, plan_put}

same_text : (a b : List ℕ) → bytes_eq a b ≡ true → a ≡ b
same_text a b e = (bytes_eq-Decides a b).0 e

-- WHAT IS WRITTEN IS READ: a tally
read_back : (row : JoinRow) (tally : Tally) → tally_in (row_with row tally) ≡ tally
read_back row tally =
    ap (λ p. record {
      bucket = tally.bucket;
      version = tally.version;
      allowance = record {
        period = p;
        allowance = tally.allowance.allowance;
        used = tally.allowance.used;
        first = (cond tally.allowance.first 1 0) == 1;
      };
    }) (period_back tally.allowance.period)
    ∙ ap (λ f. record { bucket = tally.bucket; version = tally.version; allowance = record { period = tally.allowance.period; allowance = tally.allowance.allowance; used = tally.allowance.used; first = f } })
    (flag_back tally.allowance.first)
  where
    flag_back : (b : Bool) → ((cond b 1 0) == 1) ≡ b
    flag_back true = refl
    flag_back false = refl

    kind_back : (kind : PeriodKind) (n : ℕ) → option_map {U = Period} (λ (k : PeriodKind). record { kind = k; number = n }) (kind_in (kind_number kind)) ≡ Some (record { kind = kind; number = n })
    kind_back Day n = refl
    kind_back Week n = refl
    kind_back Month n = refl

    period_back : (period : Option Period) → option_map {U = Period} (λ (k : PeriodKind). record { kind = k; number = number_column period }) (kind_in (kind_column period)) ≡ period
    period_back None = refl
    period_back (Some p) = kind_back p.kind p.number

-- and the terms of a plan
le_of : (x y : ℕ) → nat_le x y ≡ true → x ≤ y
le_of x y e = grind arith

not_none : (n : ℕ) → 1 ≤ n → (n == 0) ≡ false
not_none n l = grind (arith, l)

throttle_back : (th : Option Throttle) → is_throttle th ≡ true → cond (burst_in th == 0) None (Some (record { rate = rate_in th; burst = burst_in th })) ≡ th
throttle_back None h = refl
throttle_back (Some th) h =
    let at_d = and_parts (nat_le 1 th.rate && nat_le th.rate most_per_second && nat_le 1 th.burst) (nat_le th.burst most_per_second) h in
    let at_c = and_parts (nat_le 1 th.rate && nat_le th.rate most_per_second) (nat_le 1 th.burst) at_d.0 in
    ap (λ b. cond b None (Some th)) (not_none th.burst (le_of 1 th.burst at_c.1))

limit_back : (kind : PeriodKind) (n m : ℕ) → option_map {U = Quota} (λ (k : PeriodKind). record { limit = n; offset = m; kind = k }) (kind_in (kind_number kind)) ≡ Some (record { limit = n; offset = m; kind = kind })
limit_back Day n m = refl
limit_back Week n m = refl
limit_back Month n m = refl

quota_back : (qu : Option Quota) → option_map {U = Quota} (λ (k : PeriodKind). record { limit = limit_in qu; offset = offset_in qu; kind = k }) (kind_in (kind_of_quota qu)) ≡ qu
quota_back None = refl
quota_back (Some q) = limit_back q.kind q.limit q.offset

terms_back : (of : PlanRow) (p : List ℕ) (th : Option Throttle) (qu : Option Quota) (stages : List (List ℕ × List ℕ)) → is_throttle th ≡ true
    → terms_in (plan_of (Some of) p th qu stages) ≡ terms_put (terms_in of) th qu
terms_back of p th qu stages h =
    ap (λ x. record { throttle = x; version = (terms_put (terms_in of) th None).version; quota = quota_in (plan_of (Some of) p th qu stages) }) (throttle_back th h)
    ∙ ap (λ x. record { throttle = th; version = (terms_put (terms_in of) th None).version; quota = x }) (quota_back qu)

-- the throttle of a plan that is not refused
no_refusal : (b : Bool) (refusal : Refusal) (rest : Option Refusal) → cond b (Some refusal) rest ≡ None → (b ≡ false) × (rest ≡ None)
no_refusal true refusal rest e = absurd cc
no_refusal false refusal rest e = (refl, e)

not_false : (b : Bool) → not b ≡ false → b ≡ true
not_false true e = refl
not_false false e = absurd cc

throttle_taken : (lists : Lists) (p : List ℕ) (th : Option Throttle) (qu : Option Quota) (stages : List (List ℕ × List ℕ)) → first_refusal (put_plan_tests lists p th qu stages) ≡ None
    → is_throttle th ≡ true
throttle_taken lists p th qu stages none = not_false (is_throttle th) (no_refusal _ _ _ (no_refusal _ _ _ none).1).0

-- ACCOUNTS STEP BY STEP: what an event makes of an account
abbrev moved_by : ℕ → Bool → Option Deed → Account → Account
moved_by t kept None account = account
moved_by t kept (Some deed) account = cond kept (account_with account t deed) account

abbrev moved : Option Account → ℕ → Bool → Option Deed → Option Account → Option Account
moved begun t kept deed None = begun
moved begun t kept deed (Some account) = Some (moved_by t kept deed account)

-- a ledger moves as its balance
balance_with : (t : ℕ) (kept : Bool) (deed : Option Deed) (ledger : Ledger) → balance (with_deed t kept deed ledger) ≡ moved_by t kept deed (balance ledger)
balance_with t kept None ledger = refl
balance_with t kept (Some deed) ledger = refl

begins_with : (account : Option Account) → option_map balance (option_map begins account) ≡ account
begins_with None = refl
begins_with (Some account) = refl

ledger_next : (s : State) (entry : Entry) (plan key : List ℕ) (ledger : Option Ledger)
    → option_map balance (ledger_after s entry plan key ledger)
    ≡ moved (begun_by s entry.event entry.kept plan key) (time_at s entry.event) entry.kept (deed_of s entry.event plan key) (option_map balance ledger)
ledger_next s entry plan key None = begins_with (begun_by s entry.event entry.kept plan key)
ledger_next s entry plan key (Some ledger) = ap Some (balance_with (time_at s entry.event) entry.kept (deed_of s entry.event plan key) ledger)

-- without a deed nothing moves; nor does what is not kept
still : (t : ℕ) (kept : Bool) (begun : Option Account) → begun ≡ None → (account : Option Account) → account ≡ moved begun t kept None account
still t kept begun none None = sym none
still t kept begun none (Some account) = refl

left : (t : ℕ) (begun : Option Account) → begun ≡ None → (deed : Option Deed) (account : Option Account) → account ≡ moved begun t false deed account
left t begun none deed None = sym none
left t begun none None (Some account) = refl
left t begun none (Some deed) (Some account) = refl

none_either : (b : Bool) (begun : Option Account) → begun ≡ None → cond b begun None ≡ None
none_either true begun e = e
none_either false begun e = refl

-- ROWS OF OTHER TABLES leave each account as it was
abbrev is_aside : Row → Bool
is_aside (Meta row) = true
is_aside (Api row) = true
is_aside (Deployment row) = true
is_aside (Stage row) = true
is_aside (Key row) = true
is_aside (Plan row) = false
is_aside (Join row) = false

abbrev IsAside : Outcome → Type 0
IsAside outcome = IfSome outcome.row (λ row. is_aside row ≡ true)

put_aside : (row : Row) (lists : Lists) (plan key : List ℕ) → is_aside row ≡ true → account_in (put row lists) plan key ≡ account_in lists plan key
put_aside (Meta row) lists plan key h = refl
put_aside (Api row) lists plan key h = refl
put_aside (Deployment row) lists plan key h = refl
put_aside (Stage row) lists plan key h = refl
put_aside (Key row) lists plan key h = refl
put_aside (Plan row) lists plan key h = absurd cc
put_aside (Join row) lists plan key h = absurd cc

kept_aside : (row : Option Row) (kept : Bool) (lists : Lists) (plan key : List ℕ) → IfSome row (λ r. is_aside r ≡ true) → account_in (put_kept row kept lists) plan key ≡ account_in lists plan key
kept_aside None kept lists plan key h = refl
kept_aside (Some row) true lists plan key h = put_aside row lists plan key h
kept_aside (Some row) false lists plan key h = refl

aside : (lists : Lists) (t : ℕ) (outcome : Outcome) (kept : Bool) (plan key : List ℕ) → IsAside outcome
    → account_in (put_kept outcome.row kept lists) plan key ≡ moved (cond kept None None) t kept None (account_in lists plan key)
aside lists t outcome kept plan key h = kept_aside outcome.row kept lists plan key h ∙ still t kept (cond kept None None) (none_either kept None refl) (account_in lists plan key)

unless_aside : (refusal : Option Refusal) (outcome : Outcome) → IsAside outcome → IsAside (unless refusal outcome)
unless_aside None outcome h = h
unless_aside (Some refusal) outcome h = tt

deployed_aside : (found : Option ApiRow) (count : ℕ) → IsAside (deployment_by found count)
deployed_aside None count = tt
deployed_aside (Some row) count = full_or (nat_le most_deployments count)
  where
    full_or : (full : Bool) → IsAside (cond full (says (Refused Full)) (writes (Deployment (next_deployment row count)) (Deployed (count + 1))))
    full_or true = tt
    full_or false = refl

canary_aside : (found : Option StageRow) (number share : ℕ) (vars : List ℕ) → IsAside (canary_for found number share vars)
canary_aside None number share vars = tt
canary_aside (Some row) number share vars = refl

promoted_aside : (found : Option StageRow) → IsAside (promote found)
promoted_aside None = tt
promoted_aside (Some row) = unless_aside (first_refusal (promote_tests row)) _ refl

flush_aside : (found : Option StageRow) → IsAside (flush found)
flush_aside None = tt
flush_aside (Some row) = tt

used_aside : (period : Option Period) (standing : Allowance) → IsAside (used_of period standing)
used_aside None standing = tt
used_aside (Some period) standing = tt

shown_aside : (standing : Option Allowance) → IsAside (usage_shown standing)
shown_aside None = tt
shown_aside (Some standing) = used_aside standing.period standing

usage_aside : (row : Option JoinRow) (of : Option PlanRow) (t : ℕ) → IsAside (usage_by row of t)
usage_aside None of t = tt
usage_aside (Some row) None t = tt
usage_aside (Some row) (Some of) t = shown_aside (allowance_at (tally_in row).allowance (terms_in of).quota t)

-- A PLAN THAT IS PUT
abbrev put_outcome : Lists → List ℕ → Option Throttle → Option Quota → List (List ℕ × List ℕ) → Option Refusal → Outcome
put_outcome lists p th qu stages refusal = unless refusal (writes (Plan (plan_of (plan_row lists p) p th qu stages)) Done)

-- the plan's own keys have the new terms
plan_own : (p plan : List ℕ) (th : Option Throttle) (qu : Option Quota) (stages : List (List ℕ × List ℕ)) (t : ℕ) → is_throttle th ≡ true → (of : Option PlanRow) (row : Option JoinRow)
    → ((join : JoinRow) → row ≡ Some join → is_some of ≡ true)
    → account_of (Some (plan_of of p th qu stages)) row ≡ moved None t true (Some (anew th qu)) (account_of of row)
plan_own p plan th qu stages t h None None planned = refl
plan_own p plan th qu stages t h None (Some row) planned = let e = planned row refl in absurd cc
plan_own p plan th qu stages t h (Some of) None planned = refl
plan_own p plan th qu stages t h (Some of) (Some row) planned = ap (λ x. Some (record { terms = x; tally = tally_in row })) (terms_back of p th qu stages h)

plan_step : (lists : Lists) (t : ℕ) (kept : Bool) (plan key p : List ℕ) (th : Option Throttle) (qu : Option Quota) (stages : List (List ℕ × List ℕ)) → HavePlans lists
    → (refusal : Option Refusal) → first_refusal (put_plan_tests lists p th qu stages) ≡ refusal → (b : Bool) → bytes_eq p plan ≡ b
    → account_in (put_kept (put_outcome lists p th qu stages refusal).row kept lists) plan key
    ≡ moved (cond kept None None) t kept (cond (b && is_none refusal) (Some (anew th qu)) None) (account_in lists plan key)
plan_step lists t kept plan key p th qu stages h (Some refusal) r true e = still t kept (cond kept None None) (none_either kept None refl) (account_in lists plan key)
plan_step lists t kept plan key p th qu stages h (Some refusal) r false e = still t kept (cond kept None None) (none_either kept None refl) (account_in lists plan key)
plan_step lists t false plan key p th qu stages h None r b e = left t None refl (cond (b && true) (Some (anew th qu)) None) (account_in lists plan key)
plan_step lists t true plan key p th qu stages h None r false e =
    ap (λ found. account_of found (join_row lists plan key)) (plan_put lists.plans (plan_of (plan_row lists p) p th qu stages) plan false e) ∙ still t true None refl (account_in lists plan key)
plan_step lists t true plan key p th qu stages h None r true e =
    ap (λ found. account_of found (join_row lists plan key)) (plan_put lists.plans (plan_of (plan_row lists p) p th qu stages) plan true e)
    ∙ ap (λ n. account_of (Some (plan_of (plan_row lists n) p th qu stages)) (join_row lists plan key)) (same_text p plan e)
    ∙ plan_own p plan th qu stages t (throttle_taken lists p th qu stages r) (plan_row lists plan) (join_row lists plan key) (h plan key)

-- THE ROW OF ONE PLAN AND KEY, as it is found
abbrev account_at : PlanRow → JoinRow → Account
account_at of row = record { terms = terms_in of; tally = tally_in row }

is_found : (lists : Lists) (plan key p k : List ℕ) (of : Option PlanRow) (row : Option JoinRow) → plan_row lists p ≡ of → join_row lists p k ≡ row
    → (bytes_eq p plan && bytes_eq k key) ≡ true → account_in lists plan key ≡ account_of of row
is_found lists plan key p k of row f j e =
    let parts = and_parts (bytes_eq p plan) (bytes_eq k key) e in
    ap (λ n. account_of (plan_row lists n) (join_row lists n key)) (sym (same_text p plan parts.0))
    ∙ ap (λ n. account_of (plan_row lists p) (join_row lists p n)) (sym (same_text k key parts.1))
    ∙ ap (λ x. account_of x (join_row lists p k)) f ∙ ap (account_of of) j

-- a row that is put under these names is that account's
is_put : (lists : Lists) (plan key p k : List ℕ) (row : JoinRow) → row.plan ≡ p → row.key ≡ k → (b : Bool) → (bytes_eq p plan && bytes_eq k key) ≡ b
    → account_in (put (Join row) lists) plan key ≡ account_of (plan_row lists plan) (cond b (Some row) (join_row lists plan key))
is_put lists plan key p k row at_plan at_key b e =
    ap (account_of (plan_row lists plan)) (join_put lists.joins row plan key b (ap (λ n. bytes_eq n plan && bytes_eq row.key key) at_plan ∙ ap (λ n. bytes_eq p plan && bytes_eq n key) at_key ∙ e))

-- a deed of which no account knows
none_there : (lists : Lists) (t : ℕ) (kept : Bool) (plan key : List ℕ) (begun : Option Account) → begun ≡ None → (deed : Deed) (b : Bool) → (b ≡ true → account_in lists plan key ≡ None)
    → account_in lists plan key ≡ moved begun t kept (cond b (Some deed) None) (account_in lists plan key)
none_there lists t kept plan key begun none deed true e = subst (λ x. x ≡ moved begun t kept (Some deed) x) (sym (e refl)) (sym none)
none_there lists t kept plan key begun none deed false e = still t kept begun none (account_in lists plan key)

-- a deed that leaves the account as it was
same_after : (t : ℕ) (kept : Bool) (deed : Deed) (account : Account) → account_with account t deed ≡ account → Some account ≡ moved None t kept (Some deed) (Some account)
same_after t true deed account e = ap Some (sym e)
same_after t false deed account e = refl

same_there : (lists : Lists) (t : ℕ) (kept : Bool) (plan key : List ℕ) (begun : Option Account) → begun ≡ None → (deed : Deed) (account : Account) → account_with account t deed ≡ account → (b : Bool)
    → (b ≡ true → account_in lists plan key ≡ Some account)
    → account_in lists plan key ≡ moved begun t kept (cond b (Some deed) None) (account_in lists plan key)
same_there lists t kept plan key begun none deed account same true e = subst (λ x. x ≡ moved begun t kept (Some deed) x) (sym (e refl)) (same_after t kept deed account same)
same_there lists t kept plan key begun none deed account same false e = still t kept begun none (account_in lists plan key)

-- a deed that writes its tally
written_there : (lists : Lists) (t : ℕ) (kept : Bool) (plan key p k : List ℕ) (begun : Option Account) → begun ≡ None → (deed : Deed) (of : PlanRow) (row : JoinRow) (new : Tally)
    → plan_row lists p ≡ Some of → join_row lists p k ≡ Some row → account_with (account_at of row) t deed ≡ record { terms = terms_in of; tally = new }
    → (b : Bool) → (bytes_eq p plan && bytes_eq k key) ≡ b
    → account_in (put_kept (Some (Join (row_with row new))) kept lists) plan key ≡ moved begun t kept (cond b (Some deed) None) (account_in lists plan key)
written_there lists t false plan key p k begun none deed of row new f j made b e = left t begun none (cond b (Some deed) None) (account_in lists plan key)
written_there lists t true plan key p k begun none deed of row new f j made false e =
    is_put lists plan key p k (row_with row new) (named lists p k row j).0 (named lists p k row j).1 false e ∙ still t true begun none (account_in lists plan key)
written_there lists t true plan key p k begun none deed of row new f j made true e =
    is_put lists plan key p k (row_with row new) (named lists p k row j).0 (named lists p k row j).1 true e
    ∙ ap (λ x. account_of x (Some (row_with row new))) (ap (plan_row lists) (sym (same_text p plan (and_parts (bytes_eq p plan) (bytes_eq k key) e).0)) ∙ f)
    ∙ ap (λ x. Some (record { terms = terms_in of; tally = x })) (read_back row new)
    ∙ ap Some (sym made)
    ∙ ap (moved begun t true (Some deed)) (sym (is_found lists plan key p k (Some of) (Some row) f j e))

-- A GRANT
granted_step : (lists : Lists) (t : ℕ) (kept : Bool) (plan key p k : List ℕ) (amount : ℕ) (of : PlanRow) (row : JoinRow) → plan_row lists p ≡ Some of → join_row lists p k ≡ Some row
    → (made : Result Tally GrantRefusal) → grant_of (terms_in of) (tally_in row) amount t ≡ made
    → account_in (put_kept (granted row made).row kept lists) plan key
    ≡ moved (cond kept None None) t kept (cond (bytes_eq p plan && bytes_eq k key) (Some (given amount)) None) (account_in lists plan key)
granted_step lists t kept plan key p k amount of row f j (Ok new) made =
    written_there lists t kept plan key p k (cond kept None None) (none_either kept None refl) (given amount) of row new f j
    (ap (λ m. record { terms = terms_in of; tally = tally_after_grant (tally_in row) m }) made) (bytes_eq p plan && bytes_eq k key) refl
granted_step lists t kept plan key p k amount of row f j (Err refusal) made =
    same_there lists t kept plan key (cond kept None None) (none_either kept None refl) (given amount) (account_at of row)
    (ap (λ m. record { terms = terms_in of; tally = tally_after_grant (tally_in row) m }) made) (bytes_eq p plan && bytes_eq k key)
    (is_found lists plan key p k (Some of) (Some row) f j)

grant_step : (lists : Lists) (t : ℕ) (kept : Bool) (plan key p k : List ℕ) (amount : ℕ) (row : Option JoinRow) (of : Option PlanRow) → join_row lists p k ≡ row → plan_row lists p ≡ of
    → account_in (put_kept (grant_by row of amount t).row kept lists) plan key
    ≡ moved (cond kept None None) t kept (cond (bytes_eq p plan && bytes_eq k key) (Some (given amount)) None) (account_in lists plan key)
grant_step lists t kept plan key p k amount None of j f =
    none_there lists t kept plan key (cond kept None None) (none_either kept None refl) (given amount) (bytes_eq p plan && bytes_eq k key)
    (λ e. is_found lists plan key p k of None f j e ∙ no_join of)
  where
    no_join : (plan : Option PlanRow) → account_of plan None ≡ None
    no_join None = refl
    no_join (Some plan) = refl
grant_step lists t kept plan key p k amount (Some row) None j f =
    none_there lists t kept plan key (cond kept None None) (none_either kept None refl) (given amount) (bytes_eq p plan && bytes_eq k key) (is_found lists plan key p k None (Some row) f j)
grant_step lists t kept plan key p k amount (Some row) (Some of) j f = granted_step lists t kept plan key p k amount of row f j (grant_of (terms_in of) (tally_in row) amount t) refl

-- A KEY THAT JOINS
abbrev joined_of : Outcome → ℕ → Option PlanRow → Option Account
joined_of outcome t of = cond (is_some outcome.row) (option_map (λ (row : PlanRow). record { terms = terms_in row; tally = joined_at (terms_in row) t }) of) None

abbrev Joins : Lists → ℕ → Bool → List ℕ → List ℕ → Bool → Option PlanRow → Outcome → Type 0
Joins lists t kept plan key b of outcome =
    account_in (put_kept outcome.row kept lists) plan key ≡ moved (cond kept (cond b (joined_of outcome t of) None) None) t kept None (account_in lists plan key)

-- where nothing is written
joins_none : (lists : Lists) (t : ℕ) (kept : Bool) (plan key : List ℕ) (b : Bool) (of : Option PlanRow) (outcome : Outcome) → outcome.row ≡ None → Joins lists t kept plan key b of outcome
joins_none lists t kept plan key b of outcome none =
    ap (λ r. account_in (put_kept r kept lists) plan key) none
    ∙ still t kept (cond kept (cond b (joined_of outcome t of) None) None)
    (none_either kept (cond b (joined_of outcome t of) None) (none_either b (joined_of outcome t of)
    (ap (λ r. cond (is_some r) (option_map {U = Account} (λ (row : PlanRow). record { terms = terms_in row; tally = joined_at (terms_in row) t }) of) None) none)))
    (account_in lists plan key)

-- where the key had not joined
joins_new : (lists : Lists) (t : ℕ) (kept : Bool) (plan key p k : List ℕ) (of : PlanRow) → plan_row lists p ≡ Some of → join_row lists p k ≡ None
    → (b : Bool) → (bytes_eq p plan && bytes_eq k key) ≡ b → Joins lists t kept plan key b (Some of) (writes (Join (row_with (unused p k) (joined_at (terms_in of) t))) Done)
joins_new lists t false plan key p k of f j b e = still t false None refl (account_in lists plan key)
joins_new lists t true plan key p k of f j false e =
    is_put lists plan key p k (row_with (unused p k) (joined_at (terms_in of) t)) refl refl false e ∙ still t true None refl (account_in lists plan key)
joins_new lists t true plan key p k of f j true e =
    is_put lists plan key p k (row_with (unused p k) (joined_at (terms_in of) t)) refl refl true e
    ∙ ap (λ x. account_of x (Some (row_with (unused p k) (joined_at (terms_in of) t)))) (ap (plan_row lists) (sym (same_text p plan (and_parts (bytes_eq p plan) (bytes_eq k key) e).0)) ∙ f)
    ∙ ap (λ x. Some (record { terms = terms_in of; tally = x })) (read_back (unused p k) (joined_at (terms_in of) t))
    ∙ ap (moved (Some (record { terms = terms_in of; tally = joined_at (terms_in of) t })) t true None) (sym (is_found lists plan key p k (Some of) None f j e))

unless_joins : (lists : Lists) (t : ℕ) (kept : Bool) (plan key : List ℕ) (b : Bool) (of : Option PlanRow) (refusal : Option Refusal) (outcome : Outcome) → Joins lists t kept plan key b of outcome
    → Joins lists t kept plan key b of (unless refusal outcome)
unless_joins lists t kept plan key b of None outcome h = h
unless_joins lists t kept plan key b of (Some refusal) outcome h = joins_none lists t kept plan key b of (says (Refused refusal)) refl

joins_anew : (lists : Lists) (t : ℕ) (kept : Bool) (plan key p k : List ℕ) (of : PlanRow) (row : Option JoinRow) → plan_row lists p ≡ Some of → join_row lists p k ≡ row
    → Joins lists t kept plan key (bytes_eq p plan && bytes_eq k key) (Some of) (join_anew lists t p k of row)
joins_anew lists t kept plan key p k of (Some joined) f j = joins_none lists t kept plan key (bytes_eq p plan && bytes_eq k key) (Some of) (says Done) refl
joins_anew lists t kept plan key p k of None f j =
    unless_joins lists t kept plan key (bytes_eq p plan && bytes_eq k key) (Some of) (first_refusal (join_tests lists p k of)) (writes (Join (row_with (unused p k) (joined_at (terms_in of) t))) Done)
    (joins_new lists t kept plan key p k of f j (bytes_eq p plan && bytes_eq k key) refl)

joins_step : (lists : Lists) (t : ℕ) (kept : Bool) (plan key p k : List ℕ) (of : Option PlanRow) (found : Option KeyRow) → plan_row lists p ≡ of
    → Joins lists t kept plan key (bytes_eq p plan && bytes_eq k key) of (join_by lists t p k of found)
joins_step lists t kept plan key p k None found f = joins_none lists t kept plan key (bytes_eq p plan && bytes_eq k key) None (join_by lists t p k None found) refl
joins_step lists t kept plan key p k (Some of) None f = joins_none lists t kept plan key (bytes_eq p plan && bytes_eq k key) (Some of) (join_by lists t p k (Some of) None) refl
joins_step lists t kept plan key p k (Some of) (Some found) f = joins_anew lists t kept plan key p k of (join_row lists p k) f refl

-- A CALL
decided_step : (lists : Lists) (t : ℕ) (kept : Bool) (plan key p k : List ℕ) (of : PlanRow) (row : JoinRow) → plan_row lists p ≡ Some of → join_row lists p k ≡ Some row
    → (made : Admission) → admission_of (terms_in of) (tally_in row) t ≡ made
    → account_in (put_kept (decided k of row made).row kept lists) plan key ≡ moved None t kept (cond (bytes_eq p plan && bytes_eq k key) (Some called) None) (account_in lists plan key)
decided_step lists t kept plan key p k of row f j (admission.Admitted new) made =
    written_there lists t kept plan key p k None refl called of row new f j
    (ap (λ m. record { terms = terms_in of; tally = tally_after_call (tally_in row) m }) made) (bytes_eq p plan && bytes_eq k key) refl
decided_step lists t kept plan key p k of row f j (admission.Throttled level) made =
    same_there lists t kept plan key None refl called (account_at of row)
    (ap (λ m. record { terms = terms_in of; tally = tally_after_call (tally_in row) m }) made) (bytes_eq p plan && bytes_eq k key)
    (is_found lists plan key p k (Some of) (Some row) f j)
decided_step lists t kept plan key p k of row f j (admission.QuotaExceeded allowance used) made =
    same_there lists t kept plan key None refl called (account_at of row)
    (ap (λ m. record { terms = terms_in of; tally = tally_after_call (tally_in row) m }) made) (bytes_eq p plan && bytes_eq k key)
    (is_found lists plan key p k (Some of) (Some row) f j)

call_step : (lists : Lists) (t : ℕ) (kept : Bool) (plan key p k : List ℕ) (of : Option PlanRow) (row : Option JoinRow) → plan_row lists p ≡ of → join_row lists p k ≡ row
    → account_in (put_kept (admitted_by k of row t).row kept lists) plan key ≡ moved None t kept (cond (bytes_eq p plan && bytes_eq k key) (Some called) None) (account_in lists plan key)
call_step lists t kept plan key p k None row f j =
    none_there lists t kept plan key None refl called (bytes_eq p plan && bytes_eq k key) (is_found lists plan key p k None row f j)
call_step lists t kept plan key p k (Some of) None f j =
    none_there lists t kept plan key None refl called (bytes_eq p plan && bytes_eq k key) (is_found lists plan key p k (Some of) None f j)
call_step lists t kept plan key p k (Some of) (Some row) f j = decided_step lists t kept plan key p k of row f j (admission_of (terms_in of) (tally_in row) t) refl

and_turned : (a b : Bool) → (a && b) ≡ (b && a)
and_turned true true = refl
and_turned true false = refl
and_turned false true = refl
and_turned false false = refl

and_false : (a : Bool) → (a && false) ≡ false
and_false true = refl
and_false false = refl

under_step : (lists : Lists) (t : ℕ) (kept : Bool) (plan key k : List ℕ) (by : Option (List ℕ))
    → account_in (put_kept (admitted_under lists t k by).row kept lists) plan key ≡ moved None t kept (cond (bytes_eq k key && is_named plan by) (Some called) None) (account_in lists plan key)
under_step lists t kept plan key k None =
    still t kept None refl (account_in lists plan key) ∙ ap (λ b. moved None t kept (cond b (Some called) None) (account_in lists plan key)) (sym (and_false (bytes_eq k key)))
under_step lists t kept plan key k (Some p) =
    call_step lists t kept plan key p k (plan_row lists p) (join_row lists p k) refl refl
    ∙ ap (λ b. moved None t kept (cond b (Some called) None) (account_in lists plan key)) (and_turned (bytes_eq p plan) (bytes_eq k key))

enabled_step : (lists : Lists) (t : ℕ) (kept : Bool) (plan key k : List ℕ) (by : Option (List ℕ)) (enabled : Bool)
    → account_in (put_kept (cond enabled (admitted_under lists t k by) (says InvalidKey)).row kept lists) plan key
    ≡ moved None t kept (cond (enabled && bytes_eq k key && is_named plan by) (Some called) None) (account_in lists plan key)
enabled_step lists t kept plan key k by true = under_step lists t kept plan key k by
enabled_step lists t kept plan key k by false = still t kept None refl (account_in lists plan key)

asks_step : (lists : Lists) (t : ℕ) (kept : Bool) (plan key : List ℕ) (stage : List ℕ × List ℕ) (found : Option KeyRow)
    → account_in (put_kept (admitted_with lists t stage found).row kept lists) plan key
    ≡ moved None t kept (cond (asks_by lists stage plan key found) (Some called) None) (account_in lists plan key)
asks_step lists t kept plan key stage None = still t kept None refl (account_in lists plan key)
asks_step lists t kept plan key stage (Some row) = enabled_step lists t kept plan key row.key (plan_for lists stage row.key) (row.enabled == 1)

-- COMMANDS
command_step : (lists : Lists) (t : ℕ) (kept : Bool) (plan key : List ℕ) → HavePlans lists → (command : Command)
    → account_in (put_kept (commanded lists t command).row kept lists) plan key
    ≡ moved (cond kept (joined_by lists t command plan key) None) t kept (deed_by lists command plan key) (account_in lists plan key)
command_step lists t kept plan key h (PutApi api definition) =
    aside lists t (commanded lists t (PutApi api definition)) kept plan key (unless_aside (first_refusal (put_api_tests lists api)) _ refl)
command_step lists t kept plan key h (Deploy api) = aside lists t (commanded lists t (Deploy api)) kept plan key (deployed_aside (api_row lists api) (deployed lists api))
command_step lists t kept plan key h (PutStage api stage number variables) =
    aside lists t (commanded lists t (PutStage api stage number variables)) kept plan key (unless_aside (first_refusal (put_stage_tests lists api stage number variables)) _ refl)
command_step lists t kept plan key h (PutCanary api stage number share variables) =
    aside lists t (commanded lists t (PutCanary api stage number share variables)) kept plan key
    (unless_aside (first_refusal (put_canary_tests lists api stage number share variables)) _ (canary_aside (stage_row lists api stage) number share _))
command_step lists t kept plan key h (PromoteCanary api stage) = aside lists t (commanded lists t (PromoteCanary api stage)) kept plan key (promoted_aside (stage_row lists api stage))
command_step lists t kept plan key h (PutKey k value enabled) =
    aside lists t (commanded lists t (PutKey k value enabled)) kept plan key (unless_aside (first_refusal (put_key_tests lists k value)) _ refl)
command_step lists t kept plan key h (PutPlan p th qu stages) =
    plan_step lists t kept plan key p th qu stages h (first_refusal (put_plan_tests lists p th qu stages)) refl (bytes_eq p plan) refl
command_step lists t kept plan key h (JoinKey p k) = joins_step lists t kept plan key p k (plan_row lists p) (key_row lists k) refl
command_step lists t kept plan key h (Grant p k amount) = grant_step lists t kept plan key p k amount (join_row lists p k) (plan_row lists p) refl refl
command_step lists t kept plan key h (Flush api stage) = aside lists t (commanded lists t (Flush api stage)) kept plan key (flush_aside (stage_row lists api stage))
command_step lists t kept plan key h (Usage p k) = aside lists t (commanded lists t (Usage p k)) kept plan key (usage_aside (join_row lists p k) (plan_row lists p) t)
command_step lists t kept plan key h Shutdown = aside lists t (commanded lists t Shutdown) kept plan key tt

-- EVENTS
event_step : (s : State) (event : Event) (kept : Bool) (plan key : List ℕ) → HavePlans s.lists
    → account_in (put_kept (row_of s event) kept s.lists) plan key ≡ moved (begun_by s event kept plan key) (time_at s event) kept (deed_of s event plan key) (account_in s.lists plan key)
event_step s (Enter moment word api stage) kept plan key h = still (time_of s moment) kept None refl (account_in s.lists plan key)
event_step s (Recall moment name) kept plan key h = still (time_of s moment) kept None refl (account_in s.lists plan key)
event_step s (Learn moment name policy ttl) kept plan key h = still (time_of s moment) kept None refl (account_in s.lists plan key)
event_step s (Admit moment api stage value) kept plan key h = asks_step s.lists (time_of s moment) kept plan key (api, stage) (key_with s.lists value)
event_step s (Admin moment command) kept plan key h = command_step s.lists (time_of s moment) kept plan key h command
event_step s (Leave status cause) kept plan key h = still s.latest kept None refl (account_in s.lists plan key)

-- HISTORIES, the newest first
follows : (opening : Lists) (plan key : List ℕ) → bad_row opening ≡ None → (entries : List Entry)
    → account_in (state_of (opened opening) entries).lists plan key ≡ option_map balance (ledger_by opening entries plan key)
follows opening plan key good [] = sym (begins_with (account_in opening plan key))
follows opening plan key good (newest ∷ older) =
    let s = state_of (opened opening) older in
    event_step s newest.event newest.kept plan key (have_plans opening older good)
    ∙ ap (moved (begun_by s newest.event newest.kept plan key) (time_at s newest.event) newest.kept (deed_of s newest.event plan key)) (follows opening plan key good older)
    ∙ sym (ledger_next s newest plan key (ledger_by opening older plan key))

pub rows_follow : RowsFollowTheirLedgers
unfolding state_after
rows_follow opening history plan key good = follows opening plan key good (reverse history)
