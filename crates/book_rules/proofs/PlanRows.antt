-- What commands on keys and plans write, and what admissions do: rows of keys, plans and joins alone.
use Rattle.std.proofs.Common.{◌≡◌, ◌==◌, ℕ, Bool, true, false, List, cond, Option, Some, None, IfSome, Result, Ok, Err, refl}
use Rattle.usage_meter.specs.Allowances.{allowance_at}
use Rattle.usage_meter.specs.declared.allowance.Allowance.{Allowance}
use Rattle.usage_meter.specs.declared.period.Period.{Period}
use Rattle.usage_plans.specs.Rows.{tally_in, terms_in}
use Rattle.usage_plans.specs.Tallies.{admission_of, grant_of}
use Rattle.usage_plans.specs.declared.tally.Admission.{Admission}
use Rattle.usage_plans.specs.declared.tally.Admission.TheVariants as admission
use Rattle.usage_plans.specs.declared.tally.GrantRefusal.{GrantRefusal}
use Rattle.usage_plans.specs.declared.tally.Tally.{Tally}
use Rattle.keeper_core.specs.Lists.{Lists, key_row, plan_row, join_row, stage_row}
use Rattle.keeper_core.specs.declared.rows.StageRow.{StageRow}
use Rattle.book_rules.specs.StageCommands.{flush}
use Rattle.keeper_core.specs.declared.rows.Row.{Row}
use Rattle.keeper_core.specs.declared.rows.Row.TheVariants.{Meta, Api, Deployment, Stage, Key, Plan, Join}
use Rattle.keeper_core.specs.declared.rows.KeyRow.{KeyRow}
use Rattle.keeper_core.specs.declared.rows.PlanRow.{PlanRow}
use Rattle.keeper_core.specs.declared.rows.JoinRow.{JoinRow}
use Rattle.book_rules.specs.Admissions.{admitted, admitted_by, admitted_under, admitted_with, decided, plan_for}
use Rattle.book_rules.specs.Commands.{commanded}
use Rattle.book_rules.specs.Outcomes.{Outcome, says, unless, writes, first_refusal}
use Rattle.book_rules.specs.PlanCommands.{key_with, put_key_tests, put_plan_tests, join_tests, join_by, join_anew, granted, grant_by, usage_by, usage_shown, used_of}
use Rattle.book_rules.specs.declared.events.Command.{Command}
use Rattle.book_rules.specs.declared.events.Command.TheVariants.{PutApi, Deploy, PutStage, PutCanary, PromoteCanary, PutKey, PutPlan, JoinKey, Grant, Flush, Usage, Shutdown}
use Rattle.book_rules.specs.declared.replies.Refusal.{Refusal}
use Rattle.book_rules.specs.declared.replies.Reply.TheVariants.{InvalidKey}

abbrev pub is_of_plans : Row → Bool
is_of_plans (Meta row) = false
is_of_plans (Api row) = false
is_of_plans (Deployment row) = false
is_of_plans (Stage row) = false
is_of_plans (Key row) = true
is_of_plans (Plan row) = true
is_of_plans (Join row) = true

abbrev pub IsOfPlans : Option Row → Type 0
IsOfPlans row = IfSome row (λ r. is_of_plans r ≡ true)

-- a command on keys, plans, joins or remembered policies: it leaves the others
abbrev pub is_on_plans : Command → Bool
is_on_plans (PutApi api definition) = false
is_on_plans (Deploy api) = false
is_on_plans (PutStage api stage number variables) = false
is_on_plans (PutCanary api stage number share variables) = false
is_on_plans (PromoteCanary api stage) = false
is_on_plans (PutKey key value enabled) = true
is_on_plans (PutPlan plan throttle quota stages) = true
is_on_plans (JoinKey plan key) = true
is_on_plans (Grant plan key amount) = true
is_on_plans (Flush api stage) = true
is_on_plans (Usage plan key) = true
is_on_plans Shutdown = true

unless_plans : (refusal : Option Refusal) (outcome : Outcome) → IsOfPlans outcome.row → IsOfPlans (unless refusal outcome).row
unless_plans None outcome h = h
unless_plans (Some refusal) outcome h = tt

join_anew_plans : (lists : Lists) (t : ℕ) (plan key : List ℕ) (row : PlanRow) (found : Option JoinRow) → IsOfPlans (join_anew lists t plan key row found).row
join_anew_plans lists t plan key row (Some joined) = tt
join_anew_plans lists t plan key row None = unless_plans (first_refusal (join_tests lists plan key row)) _ refl

join_plans : (lists : Lists) (t : ℕ) (plan key : List ℕ) (row : Option PlanRow) (found : Option KeyRow) → IsOfPlans (join_by lists t plan key row found).row
join_plans lists t plan key None found = tt
join_plans lists t plan key (Some row) None = tt
join_plans lists t plan key (Some row) (Some found) = join_anew_plans lists t plan key row (join_row lists plan key)

granted_plans : (row : JoinRow) (made : Result Tally GrantRefusal) → IsOfPlans (granted row made).row
granted_plans row (Ok tally) = refl
granted_plans row (Err refusal) = tt

grant_plans : (row : Option JoinRow) (plan : Option PlanRow) (amount t : ℕ) → IsOfPlans (grant_by row plan amount t).row
grant_plans None plan amount t = tt
grant_plans (Some row) None amount t = tt
grant_plans (Some row) (Some plan) amount t = granted_plans row (grant_of (terms_in plan) (tally_in row) amount t)

used_plans : (period : Option Period) (standing : Allowance) → IsOfPlans (used_of period standing).row
used_plans None standing = tt
used_plans (Some period) standing = tt

shown_plans : (standing : Option Allowance) → IsOfPlans (usage_shown standing).row
shown_plans None = tt
shown_plans (Some standing) = used_plans standing.period standing

usage_plans : (row : Option JoinRow) (plan : Option PlanRow) (t : ℕ) → IsOfPlans (usage_by row plan t).row
usage_plans None plan t = tt
usage_plans (Some row) None t = tt
usage_plans (Some row) (Some plan) t = shown_plans (allowance_at (tally_in row).allowance (terms_in plan).quota t)

flush_plans : (found : Option StageRow) → IsOfPlans (flush found).row
flush_plans None = tt
flush_plans (Some row) = tt

pub commanded_plans : (lists : Lists) (t : ℕ) (command : Command) → is_on_plans command ≡ true → IsOfPlans (commanded lists t command).row
commanded_plans lists t (PutApi api definition) h = absurd cc
commanded_plans lists t (Deploy api) h = absurd cc
commanded_plans lists t (PutStage api stage number variables) h = absurd cc
commanded_plans lists t (PutCanary api stage number share variables) h = absurd cc
commanded_plans lists t (PromoteCanary api stage) h = absurd cc
commanded_plans lists t (PutKey key value enabled) h = unless_plans (first_refusal (put_key_tests lists key value)) _ refl
commanded_plans lists t (PutPlan plan throttle quota stages) h = unless_plans (first_refusal (put_plan_tests lists plan throttle quota stages)) _ refl
commanded_plans lists t (JoinKey plan key) h = join_plans lists t plan key (plan_row lists plan) (key_row lists key)
commanded_plans lists t (Grant plan key amount) h = grant_plans (join_row lists plan key) (plan_row lists plan) amount t
commanded_plans lists t (Flush api stage) h = flush_plans (stage_row lists api stage)
commanded_plans lists t (Usage plan key) h = usage_plans (join_row lists plan key) (plan_row lists plan) t
commanded_plans lists t Shutdown h = tt

decided_plans : (key : List ℕ) (plan : PlanRow) (row : JoinRow) (made : Admission) → IsOfPlans (decided key plan row made).row
decided_plans key plan row (admission.Admitted tally) = refl
decided_plans key plan row (admission.Throttled level) = tt
decided_plans key plan row (admission.QuotaExceeded allowance used) = tt

by_plans : (key : List ℕ) (plan : Option PlanRow) (row : Option JoinRow) (t : ℕ) → IsOfPlans (admitted_by key plan row t).row
by_plans key None row t = tt
by_plans key (Some plan) None t = tt
by_plans key (Some plan) (Some row) t = decided_plans key plan row (admission_of (terms_in plan) (tally_in row) t)

under_plans : (lists : Lists) (t : ℕ) (key : List ℕ) (plan : Option (List ℕ)) → IsOfPlans (admitted_under lists t key plan).row
under_plans lists t key None = tt
under_plans lists t key (Some plan) = by_plans key (plan_row lists plan) (join_row lists plan key) t

enabled_plans : (lists : Lists) (t : ℕ) (key : List ℕ) (plan : Option (List ℕ)) (enabled : Bool) → IsOfPlans (cond enabled (admitted_under lists t key plan) (says InvalidKey)).row
enabled_plans lists t key plan true = under_plans lists t key plan
enabled_plans lists t key plan false = tt

with_plans : (lists : Lists) (t : ℕ) (stage : List ℕ × List ℕ) (found : Option KeyRow) → IsOfPlans (admitted_with lists t stage found).row
with_plans lists t stage None = tt
with_plans lists t stage (Some row) = enabled_plans lists t row.key (plan_for lists stage row.key) (row.enabled == 1)

pub admitted_plans : (lists : Lists) (t : ℕ) (stage : List ℕ × List ℕ) (value : List ℕ) → IsOfPlans (admitted lists t stage value).row
admitted_plans lists t stage value = with_plans lists t stage (key_with lists value)
