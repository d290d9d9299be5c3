-- The reply to a call is by the ledger of the plan and the key that it is by.
use Rattle.std.proofs.Common.{◌≡◌, ◌∙◌, sym, ap, subst, refl, ℕ, ◌≤◌, ◌<◌, ◌==◌, Bool, true, false, ◌&&◌, List, [], ◌∷◌, find, Option, Some, None, option_map, cond, arith}
use Rattle.std.specs.Prelude.{is_some, nat_le, unwrap_or}
use Rattle.std.specs.Str.{bytes_eq}
use Rattle.std.specs.List.{list_any}
use Rattle.std.proofs.lemmas.Bool.{and_parts}
use Rattle.std.proofs.lemmas.Slice.Eq.{bytes_eq-Decides}
use Rattle.keeper_core.specs.Lists.{Lists, is_plan, join_row, plan_row}
use Rattle.keeper_core.specs.declared.rows.JoinRow.{JoinRow}
use Rattle.keeper_core.specs.declared.rows.KeyRow.{KeyRow}
use Rattle.keeper_core.specs.declared.rows.PlanRow.{PlanRow}
use Rattle.usage_meter.specs.Allowances.{allowance_at}
use Rattle.usage_meter.specs.declared.allowance.Allowance.{Allowance}
use Rattle.usage_meter.specs.declared.period.TheConstants.{YEAR_2100}
use Rattle.usage_plans.specs.Deeds.{Account}
use Rattle.usage_plans.specs.Rows.{tally_in, terms_in}
use Rattle.usage_plans.specs.Tallies.{admission_of, is_spent, level_taken, level_under, one_used, written}
use Rattle.usage_plans.specs.Tallies.{counted as counts_as, decided as decides}
use Rattle.usage_plans.specs.declared.tally.Admission.{Admission}
use Rattle.usage_plans.specs.declared.tally.Admission.TheVariants as admission
use Rattle.usage_plans.specs.declared.tally.Tally.{Tally}
use Rattle.usage_plans.specs.declared.terms.Terms.{Terms}
use Rattle.book_rules.proofs.Viewing.{found_holds}
use Rattle.book_rules.specs.Admissions.{admitted, admitted_by, admitted_under, admitted_with, allows, decided, plan_for}
use Rattle.book_rules.specs.Good.{bad_row}
use Rattle.book_rules.specs.History.{reply, state_after, tables_after}
use Rattle.book_rules.specs.Machine.{State, last_moment, time_of, told}
use Rattle.book_rules.specs.Outcomes.{Outcome, says}
use Rattle.book_rules.specs.PlanCommands.{key_with}
use Rattle.book_rules.specs.PlanStages.{same_stage, stages_of}
use Rattle.book_rules.specs.declared.events.Entry.{Entry}
use Rattle.book_rules.specs.declared.events.Event.{Event}
use Rattle.book_rules.specs.declared.events.Event.TheVariants.{Enter, Recall, Learn, Admit, Admin, Leave}
use Rattle.book_rules.specs.declared.replies.Reply.{Reply}
use Rattle.book_rules.specs.declared.replies.Reply.TheVariants.{InvalidKey, Throttled, QuotaExceeded}
use Rattle.book_ledgers.specs.Ledgers.{RowsFollowTheirLedgers, account_of, asks_by, is_named}
use Rattle.book_ledgers.specs.Laws.{CountsAreConserved, IsHeld, IsNow, LatestIsEarly, LevelsAreLeast, NoPeriodIsOverused}
use Rattle.session_quotas.proofs.Showing.{shows}
use Rattle.session_quotas.specs.Quotas.{CallsAreExact, IsExact, IsExactFor, called, counted, level_in, passed}

same_text : (a b : List ℕ) → bytes_eq a b ≡ true → a ≡ b
same_text a b e = (bytes_eq-Decides a b).0 e

is_itself : (a : List ℕ) → bytes_eq a a ≡ true
is_itself a = (bytes_eq-Decides a a).1 refl

pub some_same : {A : Type 0} (a b : A) → Some a ≡ Some b → a ≡ b
some_same a b same = cc

-- WHAT IS FOUND by one test is found by another that it meets
found_too : (p q : PlanRow → Bool) (rows : List PlanRow) (row : PlanRow) → find p rows ≡ Some row → q row ≡ true → (r : PlanRow) × (find q rows ≡ Some r)
found_too p q [] row e is = absurd cc
found_too p q (y ∷ ys) row e is = pick (p y) e (q y) refl (λ f. found_too p q ys row f is)
  where
    pick : (b : Bool) → cond b (Some y) (find p ys) ≡ Some row → (c : Bool) → q y ≡ c → (find p ys ≡ Some row → (r : PlanRow) × (find q ys ≡ Some r)) → (r : PlanRow) × (cond c (Some y) (find q ys) ≡ Some r)
    pick b f true at more = (y, refl)
    pick true f false at more = absurd cc
    pick false f false at more = more f

is_there : {A : Type 0} (x : Option A) → is_some x ≡ true → (a : A) × (x ≡ Some a)
is_there None e = absurd cc
is_there (Some a) e = (a, refl)

-- WHAT A CALL COMES TO that is by this plan and key: their rows stand, and decide
record Comes (lists : Lists) (plan key : List ℕ) (t : ℕ) (outcome : Outcome) : Type 0 where
  of : PlanRow
  row : JoinRow
  planned : plan_row lists plan ≡ Some of
  joined : join_row lists plan key ≡ Some row
  comes : outcome ≡ decided key of row (admission_of (terms_in of) (tally_in row) t)

under_comes : (lists : Lists) (stage : List ℕ × List ℕ) (key p : List ℕ) (t : ℕ) (found : Option PlanRow) → find (allows lists stage key) lists.plans ≡ found
    → option_map (λ (plan : PlanRow). plan.plan) found ≡ Some p → Comes lists p key t (admitted_under lists t key (Some p))
under_comes lists stage key p t None f e = absurd cc
under_comes lists stage key p t (Some found) f e =
    let named : found.plan ≡ p = some_same found.plan p e in
    let allowed = and_parts (list_any (same_stage stage) (stages_of found)) (is_some (join_row lists found.plan key)) (found_holds (allows lists stage key) lists.plans found f) in
    let j = is_there (join_row lists p key) (ap (λ n. is_some (join_row lists n key)) (sym named) ∙ allowed.1) in
    let r = found_too (allows lists stage key) (is_plan p) lists.plans found f (ap (λ n. bytes_eq n p) named ∙ is_itself p) in
    record {
      of = r.0;
      row = j.0;
      planned = r.1;
      joined = j.1;
      comes = ap (λ o. admitted_by key o (join_row lists p key) t) r.1 ∙ ap (λ o. admitted_by key (Some r.0) o t) j.1;
    }

by_comes : (lists : Lists) (stage : List ℕ × List ℕ) (plan key : List ℕ) (t : ℕ) (by : Option (List ℕ)) → plan_for lists stage key ≡ by → is_named plan by ≡ true
    → Comes lists plan key t (admitted_under lists t key by)
by_comes lists stage plan key t None f e = absurd cc
by_comes lists stage plan key t (Some p) f e =
    subst (λ n. Comes lists n key t (admitted_under lists t key (Some p))) (same_text p plan e) (under_comes lists stage key p t (find (allows lists stage key) lists.plans) refl f)

with_comes : (lists : Lists) (stage : List ℕ × List ℕ) (plan key : List ℕ) (t : ℕ) (found : Option KeyRow) → asks_by lists stage plan key found ≡ true
    → Comes lists plan key t (admitted_with lists t stage found)
with_comes lists stage plan key t None e = absurd cc
with_comes lists stage plan key t (Some row) e =
    let named = and_parts ((row.enabled == 1) && bytes_eq row.key key) (is_named plan (plan_for lists stage row.key)) e in
    let on = and_parts (row.enabled == 1) (bytes_eq row.key key) named.0 in
    subst (λ o. Comes lists plan key t o) (sym (ap (λ b. cond b (admitted_under lists t row.key (plan_for lists stage row.key)) (says InvalidKey)) on.0))
    (subst (λ k. Comes lists plan k t (admitted_under lists t row.key (plan_for lists stage row.key))) (same_text row.key key on.1)
    (by_comes lists stage plan row.key t (plan_for lists stage row.key) refl named.1))

-- THE REPLY by what it comes to
abbrev pub said : Bool → Outcome → Reply
said kept outcome = told (is_some outcome.row) outcome.reply kept

abbrev replied : List ℕ → PlanRow → JoinRow → Bool → Admission → Reply
replied key of row kept made = said kept (decided key of row made)

passes : (key : List ℕ) (of : PlanRow) (row : JoinRow) (kept : Bool) (terms : Terms) (level : Option ℕ) (own : Allowance) (t : ℕ)
    → replied key of row kept (counts_as terms level t own None) ≡ passed of.plan key kept
passes key of row true terms level own t = refl
passes key of row false terms level own t = refl

counts : (key : List ℕ) (of : PlanRow) (row : JoinRow) (kept : Bool) (terms : Terms) (level : Option ℕ) (standing : Option Allowance) (own : Allowance) (t : ℕ)
    → replied key of row kept (counts_as terms level t own standing) ≡ counted of.plan key kept standing
counts key of row kept terms level None own t = passes key of row kept terms level own t
counts key of row kept terms level (Some standing) own t = pick (written terms (level_taken level) t (one_used standing)) (nat_le standing.allowance standing.used) kept
  where
    pick : (new : Tally) (b k : Bool) → replied key of row k (cond b (admission.QuotaExceeded standing.allowance standing.used) (admission.Admitted new)) ≡ cond b (QuotaExceeded standing.allowance standing.used) (passed of.plan key k)
    pick new true k = refl
    pick new false true = refl
    pick new false false = refl

replies : (key : List ℕ) (of : PlanRow) (row : JoinRow) (kept : Bool) (terms : Terms) (level : Option ℕ) (standing : Option Allowance) (own : Allowance) (t : ℕ)
    → replied key of row kept (decides terms level standing own t) ≡ called of.plan key kept level standing
replies key of row kept terms level standing own t = pick (is_spent level)
  where
    pick : (b : Bool) → replied key of row kept (cond b (admission.Throttled (unwrap_or level 0)) (counts_as terms level t own standing)) ≡ cond b (Throttled (unwrap_or level 0)) (counted of.plan key kept standing)
    pick true = refl
    pick false = counts key of row kept terms level standing own t

-- a call by no plan and key has no key
none_comes : (lists : Lists) (stage : List ℕ × List ℕ) (t : ℕ) (found : Option KeyRow) → ((plan key : List ℕ) → asks_by lists stage plan key found ≡ false) → admitted_with lists t stage found ≡ says InvalidKey
none_comes lists stage t None none = refl
none_comes lists stage t (Some row) none = pick (row.enabled == 1) (plan_for lists stage row.key) (λ plan. none plan row.key)
  where
    pick : (b : Bool) (by : Option (List ℕ)) → ((plan : List ℕ) → (b && bytes_eq row.key row.key && is_named plan by) ≡ false) → cond b (admitted_under lists t row.key by) (says InvalidKey) ≡ says InvalidKey
    pick false by h = refl
    pick true None h = refl
    pick true (Some p) h = let here = h p in let one = is_itself row.key in let two = is_itself p in absurd cc

-- the moment of an event is not before the latest one, and before the year 2100
pub time_least : (s : State) (moment : ℕ) → s.latest ≤ time_of s moment
time_least s moment = omega arith

pub time_early : (s : State) (moment : ℕ) → s.latest < YEAR_2100 → time_of s moment < YEAR_2100
unfolding last_moment
time_early s moment h = omega (arith, h)

-- SO EACH REPLY IS EXACT
admit_exact : RowsFollowTheirLedgers → LevelsAreLeast → CountsAreConserved → NoPeriodIsOverused → LatestIsEarly
    → (opening : Lists) (earlier : List Entry) (stage : List ℕ × List ℕ) (value : List ℕ) (moment : ℕ) (kept : Bool) (answer : Reply) → bad_row opening ≡ None
    → answer ≡ said kept (admitted (tables_after opening earlier) (time_of (state_after opening earlier) moment) stage value)
    → IsExact opening earlier stage value (time_of (state_after opening earlier) moment) kept answer
admit_exact follow levels conserved within early opening earlier stage value moment kept answer good e =
    let s = state_after opening earlier in
    let t = time_of s moment in
    let now : IsNow opening earlier t = record { good = good; latest = time_least s moment; early = time_early s moment (early opening earlier good) } in
    record {
      by_ledger = λ plan key asked.
          let c = with_comes s.lists stage plan key t (key_with s.lists value) asked in
          let account : Account = record { terms = terms_in c.of; tally = tally_in c.row } in
          let held : IsHeld opening earlier plan key account = ap (λ o. account_of o (join_row s.lists plan key)) c.planned ∙ ap (λ o. account_of (Some c.of) o) c.joined in
          let shown = shows follow levels conserved within opening earlier plan key account t now held in
          let level = level_under account.terms account.tally t in
          let standing = allowance_at account.tally.allowance account.terms.quota t in
          record {
            ledger = shown.ledger;
            its = shown.its;
            exact = e ∙ ap (said kept) c.comes ∙ replies key c.of c.row kept account.terms level standing account.tally.allowance t
                ∙ ap (λ n. called n key kept level standing) (same_text c.of.plan plan (found_holds (is_plan plan) s.lists.plans c.of c.planned))
                ∙ ap (λ l. called plan key kept l standing) shown.level ∙ ap (called plan key kept (level_in shown.ledger t)) shown.counts;
          };
      by_none = λ none. e ∙ ap (said kept) (none_comes s.lists stage t (key_with s.lists value) none);
    }

event_exact : RowsFollowTheirLedgers → LevelsAreLeast → CountsAreConserved → NoPeriodIsOverused → LatestIsEarly
    → (opening : Lists) (earlier : List Entry) (event : Event) (kept : Bool) (answer : Reply) → bad_row opening ≡ None
    → answer ≡ reply opening earlier event kept → IsExactFor opening earlier event kept answer
event_exact follow levels conserved within early opening earlier (Enter moment word api stage) kept answer good e = tt
event_exact follow levels conserved within early opening earlier (Recall moment name) kept answer good e = tt
event_exact follow levels conserved within early opening earlier (Learn moment name policy ttl) kept answer good e = tt
event_exact follow levels conserved within early opening earlier (Admit moment api stage value) kept answer good e =
    admit_exact follow levels conserved within early opening earlier (api, stage) value moment kept answer good e
event_exact follow levels conserved within early opening earlier (Admin moment command) kept answer good e = tt
event_exact follow levels conserved within early opening earlier (Leave status cause) kept answer good e = tt

pub calls_exact : RowsFollowTheirLedgers → LevelsAreLeast → CountsAreConserved → NoPeriodIsOverused → LatestIsEarly → CallsAreExact
calls_exact follow levels conserved within early base earlier entry answer good answers =
    event_exact follow levels conserved within early base.opening earlier entry.event entry.kept answer good answers.reply
