-- What stands after an event may stand.
use Rattle.std.proofs.Common.{◌≡◌, ◌∙◌, sym, ap, subst, refl, ℕ, ◌+◌, ◌<◌, ◌≤◌, ◌==◌, min, max, Bool, true, false, not, ◌&&◌, List, [], ◌∷◌, length, find, Option, Some, None, IfSome, is_none, Result, Ok, Err, cond, arith}
use Rattle.std.specs.Prelude.{is_some, nat_le}
use Rattle.std.specs.Str.{bytes_eq}
use Rattle.std.proofs.lemmas.Bool.{and_parts}
use Rattle.std.proofs.lemmas.Slice.Eq.{bytes_eq-Decides}
use Rattle.gw_base.specs.Names.{is_name}
use Rattle.call_facts.specs.Pairs.{Pairs}
use Rattle.usage_meter.specs.Allowances.{allowance_at}
use Rattle.usage_meter.specs.declared.allowance.Allowance.{Allowance}
use Rattle.usage_meter.specs.declared.allowance.Quota.{Quota}
use Rattle.usage_meter.specs.declared.period.Period.{Period}
use Rattle.usage_meter.specs.declared.throttle.Throttle.{Throttle}
use Rattle.usage_plans.specs.Rows.{row_with, tally_in, terms_in}
use Rattle.usage_plans.specs.Tallies.{admission_of, grant_of, joined_at}
use Rattle.usage_plans.specs.declared.tally.Admission.{Admission}
use Rattle.usage_plans.specs.declared.tally.Admission.TheVariants as admission
use Rattle.usage_plans.specs.declared.tally.GrantRefusal.{GrantRefusal}
use Rattle.usage_plans.specs.declared.tally.Tally.{Tally}
use Rattle.keeper_core.specs.Lists.{Lists, is_join, api_row, stage_row, key_row, plan_row, join_row, put}
use Rattle.keeper_core.specs.declared.rows.Row.{Row}
use Rattle.keeper_core.specs.declared.rows.Row.TheVariants.{Deployment, Plan, Join}
use Rattle.keeper_core.specs.declared.rows.ApiRow.{ApiRow}
use Rattle.keeper_core.specs.declared.rows.StageRow.{StageRow}
use Rattle.keeper_core.specs.declared.rows.KeyRow.{KeyRow}
use Rattle.keeper_core.specs.declared.rows.PlanRow.{PlanRow}
use Rattle.keeper_core.specs.declared.rows.JoinRow.{JoinRow}
use Rattle.book_rules.proofs.Viewing.{found_holds}
use Rattle.book_rules.specs.Admissions.{admitted, admitted_by, admitted_under, admitted_with, decided, plan_for}
use Rattle.book_rules.specs.Commands.{commanded}
use Rattle.book_rules.specs.Fits.{AreFit, IsFitJoin, IsFitPlan}
use Rattle.book_rules.specs.Limits.{most_deployments, most_keys}
use Rattle.book_rules.specs.Names.{is_key_value}
use Rattle.book_rules.specs.Machine.{State, last_moment, put_kept, row_of, time_at, time_of}
use Rattle.book_rules.specs.Outcomes.{Outcome, first_refusal, says, unless, writes}
use Rattle.book_rules.specs.PlanCommands.{is_of_another, is_throttle, granted, grant_by, join_anew, join_by, join_tests, key_with, plan_of, put_key_tests, put_plan_tests, unused, usage_by, usage_shown, used_of}
use Rattle.book_rules.specs.StageCommands.{canary_for, deployed, deployment_by, next_deployment, promote, promote_tests, put_api_tests, put_canary_tests, put_stage_tests, flush}
use Rattle.book_rules.specs.declared.events.Command.{Command}
use Rattle.book_rules.specs.declared.events.Command.TheVariants.{PutApi, Deploy, PutStage, PutCanary, PromoteCanary, PutKey, PutPlan, JoinKey, Grant, Flush, Usage, Shutdown}
use Rattle.book_rules.specs.declared.events.Event.{Event}
use Rattle.book_rules.specs.declared.events.Event.TheVariants.{Enter, Recall, Learn, Admit, Admin, Leave}
use Rattle.book_rules.specs.declared.replies.Refusal.{Refusal}
use Rattle.book_rules.specs.declared.replies.Refusal.TheVariants.{BadName, BadKey, ValueTaken, Full}
use Rattle.book_rules.specs.declared.replies.Reply.TheVariants.{Deployed, InvalidKey, Refused}
use Rattle.fit_rows.proofs.Fitting.{fits_later}
use Rattle.fit_rows.proofs.FitsOn.{AdmittedFits, IsFitRow, admitted_fits, grant_fits, GrantedFits, joined_fits, no_refusal, not_false, outlasts, plan_fits, plan_taken, put_fits}

abbrev RowFits : Lists → ℕ → Outcome → Type 0
RowFits lists t outcome = IfSome outcome.row (IsFitRow lists t)

unless_fits : (lists : Lists) (t : ℕ) (refusal : Option Refusal) (outcome : Outcome) → (refusal ≡ None → RowFits lists t outcome) → RowFits lists t (unless refusal outcome)
unless_fits lists t None outcome h = h refl
unless_fits lists t (Some refusal) outcome h = tt

deployed_fits : (lists : Lists) (t : ℕ) (found : Option ApiRow) (count : ℕ) → RowFits lists t (deployment_by found count)
deployed_fits lists t None count = tt
deployed_fits lists t (Some row) count = full_or (nat_le most_deployments count)
  where
    full_or : (full : Bool) → RowFits lists t (cond full (says (Refused Full)) (writes (Deployment (next_deployment row count)) (Deployed (count + 1))))
    full_or true = tt
    full_or false = tt

canary_fits : (lists : Lists) (t : ℕ) (found : Option StageRow) (number share : ℕ) (vars : List ℕ) → RowFits lists t (canary_for found number share vars)
canary_fits lists t None number share vars = tt
canary_fits lists t (Some row) number share vars = tt

promoted_fits : (lists : Lists) (t : ℕ) (found : Option StageRow) → RowFits lists t (promote found)
promoted_fits lists t None = tt
promoted_fits lists t (Some row) = unless_fits lists t (first_refusal (promote_tests row)) _ (λ none. tt)

same_text : (a b : List ℕ) → bytes_eq a b ≡ true → a ≡ b
same_text a b e = (bytes_eq-Decides a b).0 e

some_same : {A : Type 0} (a b : A) → Some a ≡ Some b → a ≡ b
some_same a b same = cc

-- the plan of a join that was found
plan_named : (lists : Lists) (plan key : List ℕ) (row : JoinRow) → join_row lists plan key ≡ Some row → row.plan ≡ plan
plan_named lists plan key row found = same_text row.plan plan (and_parts (bytes_eq row.plan plan) (bytes_eq row.key key) (found_holds (is_join plan key) lists.joins row found)).0

-- a join that is written under its plan
written_fits : (lists : Lists) (t : ℕ) (plan key : List ℕ) (of : PlanRow) (row : JoinRow) (tally : Tally) → plan_row lists plan ≡ Some of → row.plan ≡ plan
    → IsFitJoin of (row_with row tally) t → IsFitRow lists t (Join (row_with row tally))
written_fits lists t plan key of row tally p named fit =
    let here : plan_row lists row.plan ≡ Some of = ap (plan_row lists) named ∙ p in
    (ap is_some here, λ other e. subst (λ o. IsFitJoin o (row_with row tally) t) (some_same of other (sym here ∙ e)) fit)

granted_row : (lists : Lists) (t : ℕ) (plan key : List ℕ) (of : PlanRow) (row : JoinRow) (made : Result Tally GrantRefusal) → plan_row lists plan ≡ Some of → row.plan ≡ plan
    → GrantedFits of row t made → RowFits lists t (granted row made)
granted_row lists t plan key of row (Ok tally) p named fit = written_fits lists t plan key of row tally p named fit
granted_row lists t plan key of row (Err refusal) p named fit = tt

grant_row : (lists : Lists) (t : ℕ) (plan key : List ℕ) (amount : ℕ) → AreFit lists t → (row : Option JoinRow) (of : Option PlanRow) → join_row lists plan key ≡ row → plan_row lists plan ≡ of
    → RowFits lists t (grant_by row of amount t)
grant_row lists t plan key amount h None of j p = tt
grant_row lists t plan key amount h (Some row) None j p = tt
grant_row lists t plan key amount h (Some row) (Some of) j p =
    granted_row lists t plan key of row (grant_of (terms_in of) (tally_in row) amount t) p (plan_named lists plan key row j)
    (grant_fits of row t h.early (h.plans plan of p) (h.joins plan key of row p j) amount)

used_fits : (lists : Lists) (t : ℕ) (period : Option Period) (standing : Allowance) → RowFits lists t (used_of period standing)
used_fits lists t None standing = tt
used_fits lists t (Some period) standing = tt

shown_fits : (lists : Lists) (t : ℕ) (standing : Option Allowance) → RowFits lists t (usage_shown standing)
shown_fits lists t None = tt
shown_fits lists t (Some standing) = used_fits lists t standing.period standing

usage_fits : (lists : Lists) (t : ℕ) (row : Option JoinRow) (plan : Option PlanRow) → RowFits lists t (usage_by row plan t)
usage_fits lists t None plan = tt
usage_fits lists t (Some row) None = tt
usage_fits lists t (Some row) (Some plan) = shown_fits lists t (allowance_at (tally_in row).allowance (terms_in plan).quota t)

joined_anew : (lists : Lists) (t : ℕ) (plan key : List ℕ) (of : PlanRow) (found : Option JoinRow) → plan_row lists plan ≡ Some of → RowFits lists t (join_anew lists t plan key of found)
joined_anew lists t plan key of (Some joined) p = tt
joined_anew lists t plan key of None p =
    unless_fits lists t (first_refusal (join_tests lists plan key of)) _ (λ none. written_fits lists t plan key of (unused plan key) (joined_at (terms_in of) t) p refl (joined_fits of (unused plan key) t))

join_fits : (lists : Lists) (t : ℕ) (plan key : List ℕ) (of : Option PlanRow) (found : Option KeyRow) → plan_row lists plan ≡ of → RowFits lists t (join_by lists t plan key of found)
join_fits lists t plan key None found p = tt
join_fits lists t plan key (Some of) None p = tt
join_fits lists t plan key (Some of) (Some found) p = joined_anew lists t plan key of (join_row lists plan key) p

plan_put_fits : (lists : Lists) (t : ℕ) (plan : List ℕ) (throttle : Option Throttle) (quota : Option Quota) (stages : Pairs) → AreFit lists t
    → first_refusal (put_plan_tests lists plan throttle quota stages) ≡ None
    → IsFitRow lists t (Plan (plan_of (plan_row lists plan) plan throttle quota stages))
plan_put_fits lists t plan throttle quota stages h none =
    let taken = plan_taken lists plan throttle quota stages none in
    (plan_fits lists plan throttle quota stages taken, λ key join e. outlast key join e taken.throttled (plan_row lists plan) refl (h.planned plan key join e))
  where
    outlast : (key : List ℕ) (join : JoinRow) → join_row lists plan key ≡ Some join → is_throttle throttle ≡ true
        → (found : Option PlanRow) → plan_row lists plan ≡ found → is_some found ≡ true → IsFitJoin (plan_of found plan throttle quota stages) join t
    outlast key join e taken None f some = absurd cc
    outlast key join e taken (Some of) f some = outlasts of plan throttle quota stages join t taken (h.joins plan key of join f e)

key_taken : (lists : Lists) (key value : List ℕ) → first_refusal (put_key_tests lists key value) ≡ None → is_name key ≡ true
key_taken lists key value none =
    let later : List (Bool × Refusal) =
    (not (is_key_value value), BadKey)
    ∷ (is_of_another key (key_with lists value), ValueTaken)
    ∷ (is_none (key_row lists key) && nat_le most_keys (length lists.keys), Full)
    ∷ [] in
    not_false (is_name key) (no_refusal (not (is_name key)) BadName later none).0

flush_fits : (lists : Lists) (t : ℕ) (found : Option StageRow) → RowFits lists t (flush found)
flush_fits lists t None = tt
flush_fits lists t (Some row) = tt

command_fits : (lists : Lists) (t : ℕ) (command : Command) → AreFit lists t → RowFits lists t (commanded lists t command)
command_fits lists t (PutApi api definition) h = unless_fits lists t (first_refusal (put_api_tests lists api)) _ (λ none. tt)
command_fits lists t (Deploy api) h = deployed_fits lists t (api_row lists api) (deployed lists api)
command_fits lists t (PutStage api stage number variables) h = unless_fits lists t (first_refusal (put_stage_tests lists api stage number variables)) _ (λ none. tt)
command_fits lists t (PutCanary api stage number share variables) h =
    unless_fits lists t (first_refusal (put_canary_tests lists api stage number share variables)) _ (λ none. canary_fits lists t (stage_row lists api stage) number share _)
command_fits lists t (PromoteCanary api stage) h = promoted_fits lists t (stage_row lists api stage)
command_fits lists t (PutKey key value enabled) h =
    unless_fits lists t (first_refusal (put_key_tests lists key value)) _ (λ none. key_taken lists key value none)
command_fits lists t (PutPlan plan throttle quota stages) h =
    unless_fits lists t (first_refusal (put_plan_tests lists plan throttle quota stages)) _ (λ none. plan_put_fits lists t plan throttle quota stages h none)
command_fits lists t (JoinKey plan key) h = join_fits lists t plan key (plan_row lists plan) (key_row lists key) refl
command_fits lists t (Grant plan key amount) h = grant_row lists t plan key amount h (join_row lists plan key) (plan_row lists plan) refl refl
command_fits lists t (Flush api stage) h = flush_fits lists t (stage_row lists api stage)
command_fits lists t (Usage plan key) h = usage_fits lists t (join_row lists plan key) (plan_row lists plan)
command_fits lists t Shutdown h = tt

decided_fits : (lists : Lists) (t : ℕ) (plan key name : List ℕ) (of : PlanRow) (row : JoinRow) (made : Admission) → plan_row lists plan ≡ Some of → row.plan ≡ plan → AdmittedFits of row t made
    → RowFits lists t (decided name of row made)
decided_fits lists t plan key name of row (admission.Admitted tally) p named fit = written_fits lists t plan key of row tally p named fit
decided_fits lists t plan key name of row (admission.Throttled level) p named fit = tt
decided_fits lists t plan key name of row (admission.QuotaExceeded allowance used) p named fit = tt

by_fits : (lists : Lists) (t : ℕ) (plan key : List ℕ) → AreFit lists t → (of : Option PlanRow) (row : Option JoinRow) → plan_row lists plan ≡ of → join_row lists plan key ≡ row
    → RowFits lists t (admitted_by key of row t)
by_fits lists t plan key h None row p j = tt
by_fits lists t plan key h (Some of) None p j = tt
by_fits lists t plan key h (Some of) (Some row) p j =
    decided_fits lists t plan key key of row (admission_of (terms_in of) (tally_in row) t) p (plan_named lists plan key row j)
    (admitted_fits of row t h.early (h.plans plan of p) (h.joins plan key of row p j))

under_fits : (lists : Lists) (t : ℕ) (key : List ℕ) (plan : Option (List ℕ)) → AreFit lists t → RowFits lists t (admitted_under lists t key plan)
under_fits lists t key None h = tt
under_fits lists t key (Some plan) h = by_fits lists t plan key h (plan_row lists plan) (join_row lists plan key) refl refl

enabled_fits : (lists : Lists) (t : ℕ) (key : List ℕ) (plan : Option (List ℕ)) (enabled : Bool) → AreFit lists t → RowFits lists t (cond enabled (admitted_under lists t key plan) (says InvalidKey))
enabled_fits lists t key plan true h = under_fits lists t key plan h
enabled_fits lists t key plan false h = tt

admission_fits : (lists : Lists) (t : ℕ) (stage : List ℕ × List ℕ) (found : Option KeyRow) → AreFit lists t → RowFits lists t (admitted_with lists t stage found)
admission_fits lists t stage None h = tt
admission_fits lists t stage (Some row) h = enabled_fits lists t row.key (plan_for lists stage row.key) (row.enabled == 1) h

kept_fits : (lists : Lists) (t : ℕ) (row : Option Row) (kept : Bool) → IfSome row (IsFitRow lists t) → AreFit lists t → AreFit (put_kept row kept lists) t
kept_fits lists t None kept new h = h
kept_fits lists t (Some row) true new h = put_fits row lists t new h
kept_fits lists t (Some row) false new h = h

-- at the moment of an event
pub fits_at : (s : State) (moment : ℕ) → AreFit s.lists s.latest → AreFit s.lists (time_of s moment)
unfolding last_moment
fits_at s moment h = fits_later s.lists s.latest (time_of s moment) (omega arith) (let e = h.early in omega (arith, e)) h

-- and behind it
pub fits_after : (s : State) (event : Event) (kept : Bool) → AreFit s.lists s.latest → AreFit (put_kept (row_of s event) kept s.lists) (time_at s event)
fits_after s (Enter moment word api stage) kept h = fits_at s moment h
fits_after s (Recall moment name) kept h = fits_at s moment h
fits_after s (Learn moment name policy ttl) kept h = fits_at s moment h
fits_after s (Admit moment api stage value) kept h =
    kept_fits s.lists (time_of s moment) (row_of s (Admit moment api stage value)) kept
    (admission_fits s.lists (time_of s moment) (api, stage) (key_with s.lists value) (fits_at s moment h)) (fits_at s moment h)
fits_after s (Admin moment command) kept h =
    kept_fits s.lists (time_of s moment) (row_of s (Admin moment command)) kept (command_fits s.lists (time_of s moment) command (fits_at s moment h)) (fits_at s moment h)
fits_after s (Leave status cause) kept h = h
