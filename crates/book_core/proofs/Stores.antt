-- A change that is not kept, and no other event, is replied Store.
use Rattle.std.proofs.Common.{◌≡◌, ℕ, ◌+◌, ◌-◌, ◌^◌, ◌≤◌, ◌==◌, min, Bool, true, false, not, ◌&&◌, cond, List, [], Option, Some, None, Result, Ok, Err, refl, sym, ◌∙◌}
use Rattle.std.specs.Prelude.{is_some, nat_le}
use Rattle.gw_base.specs.Outside.{Rose}
use Rattle.call_facts.specs.declared.vars.Vars.{Vars}
use Rattle.policy_core.specs.declared.policy.Policy.{Policy}
use Rattle.policy_memory.specs.Remembered.{remembered}
use Rattle.usage_meter.specs.Allowances.{allowance_at}
use Rattle.usage_meter.specs.declared.allowance.Allowance.{Allowance}
use Rattle.usage_meter.specs.declared.period.Period.{Period}
use Rattle.usage_plans.specs.Rows.{tally_in, terms_in}
use Rattle.usage_plans.specs.Tallies.{admission_of, grant_of}
use Rattle.usage_plans.specs.declared.tally.Admission.{Admission}
use Rattle.usage_plans.specs.declared.tally.Admission.TheVariants as admission
use Rattle.usage_plans.specs.declared.tally.GrantRefusal.{GrantRefusal}
use Rattle.usage_plans.specs.declared.tally.Tally.{Tally}
use Rattle.keeper_core.specs.Lists.{Lists, stage_row, deployment_row, api_row, key_row, plan_row, join_row}
use Rattle.keeper_core.specs.declared.rows.Row.{Row}
use Rattle.keeper_core.specs.declared.rows.ApiRow.{ApiRow}
use Rattle.keeper_core.specs.declared.rows.StageRow.{StageRow}
use Rattle.keeper_core.specs.declared.rows.DeploymentRow.{DeploymentRow}
use Rattle.keeper_core.specs.declared.rows.KeyRow.{KeyRow}
use Rattle.keeper_core.specs.declared.rows.PlanRow.{PlanRow}
use Rattle.keeper_core.specs.declared.rows.JoinRow.{JoinRow}
use Rattle.keeper_core.specs.Keeping.{KeeperFacts}
use Rattle.book_rules.specs.Admissions.{admitted_by, admitted_under, admitted_with, decided, plan_for}
use Rattle.book_rules.specs.Commands.{commanded}
use Rattle.book_rules.specs.Limits.{most_deployments}
use Rattle.book_rules.specs.Machine.{State, is_taken, viewed, entered, entered_as, outcome_of, recalled, row_of, told, time_of}
use Rattle.book_rules.specs.Outcomes.{Outcome, first_refusal, says, unless}
use Rattle.book_rules.specs.PlanCommands.{key_with, put_key_tests, put_plan_tests, join_tests, join_by, join_anew, granted, grant_by, usage_by, usage_shown, used_of}
use Rattle.book_rules.specs.StageCommands.{deployment_by, put_api_tests, put_stage_tests, put_canary_tests, canary_for, promote, promote_tests, deployed, flush}
use Rattle.book_rules.specs.Stored.{merged_in, variables_in}
use Rattle.book_rules.specs.declared.events.Command.{Command}
use Rattle.book_rules.specs.declared.events.Command.TheVariants.{PutApi, Deploy, PutStage, PutCanary, PromoteCanary, PutKey, PutPlan, JoinKey, Grant, Flush, Usage, Shutdown}
use Rattle.book_rules.specs.declared.events.Event.{Event}
use Rattle.book_rules.specs.declared.events.Event.TheVariants.{Enter, Recall, Learn, Admit, Admin, Leave}
use Rattle.book_rules.specs.declared.replies.Refusal.{Refusal}
use Rattle.book_rules.specs.declared.replies.Reply.{Reply}
use Rattle.book_rules.specs.declared.replies.Reply.TheVariants.{InvalidKey, Store}
use Rattle.book_core.specs.Keeps.{Went}

viewed_otherwise : (place at : ℕ) (canary : Bool) (number : ℕ) (variables : Vars) (found : Option DeploymentRow) → viewed place at canary number variables found ≡ Store → ⊥
viewed_otherwise place at canary number variables None e = cc
viewed_otherwise place at canary number variables (Some deployment) e = cc

as_otherwise : (lists : Lists) (place at : ℕ) (canary : Bool) (row : StageRow) → entered_as lists place at canary row ≡ Store → ⊥
as_otherwise lists place at true row e = viewed_otherwise place at true row.canary (merged_in row) (deployment_row lists row.api row.canary) e
as_otherwise lists place at false row e = viewed_otherwise place at false row.deployment (variables_in row.vars) (deployment_row lists row.api row.deployment) e

entered_otherwise : (lists : Lists) (place at word : ℕ) (found : Option StageRow) → entered lists place at word found ≡ Store → ⊥
entered_otherwise lists place at word None e = cc
entered_otherwise lists place at word (Some row) e = as_otherwise lists place at (is_taken row word) row e

unless_otherwise : (refusal : Option Refusal) (outcome : Outcome) → (outcome.reply ≡ Store → ⊥) → (unless refusal outcome).reply ≡ Store → ⊥
unless_otherwise None outcome h e = h e
unless_otherwise (Some refusal) outcome h e = cc

full_or_deployed : (full : Bool) (a b : Outcome) → (a.reply ≡ Store → ⊥) → (b.reply ≡ Store → ⊥) → (cond full a b).reply ≡ Store → ⊥
full_or_deployed true a b h k e = h e
full_or_deployed false a b h k e = k e

deployed_otherwise : (found : Option ApiRow) (count : ℕ) → (deployment_by found count).reply ≡ Store → ⊥
deployed_otherwise None count e = cc
deployed_otherwise (Some row) count e = full_or_deployed (nat_le most_deployments count) _ _ (λ x. cc) (λ x. cc) e

canary_otherwise : (found : Option StageRow) (number share : ℕ) (vars : List ℕ) → (canary_for found number share vars).reply ≡ Store → ⊥
canary_otherwise None number share vars e = cc
canary_otherwise (Some row) number share vars e = cc

promote_otherwise : (found : Option StageRow) → (promote found).reply ≡ Store → ⊥
promote_otherwise None e = cc
promote_otherwise (Some row) e = unless_otherwise (first_refusal (promote_tests row)) _ (λ x. cc) e

join_anew_otherwise : (lists : Lists) (t : ℕ) (plan key : List ℕ) (row : PlanRow) (found : Option JoinRow) → (join_anew lists t plan key row found).reply ≡ Store → ⊥
join_anew_otherwise lists t plan key row (Some joined) e = cc
join_anew_otherwise lists t plan key row None e = unless_otherwise (first_refusal (join_tests lists plan key row)) _ (λ x. cc) e

join_otherwise : (lists : Lists) (t : ℕ) (plan key : List ℕ) (row : Option PlanRow) (found : Option KeyRow) → (join_by lists t plan key row found).reply ≡ Store → ⊥
join_otherwise lists t plan key None found e = cc
join_otherwise lists t plan key (Some row) None e = cc
join_otherwise lists t plan key (Some row) (Some found) e = join_anew_otherwise lists t plan key row (join_row lists plan key) e

granted_otherwise : (row : JoinRow) (made : Result Tally GrantRefusal) → (granted row made).reply ≡ Store → ⊥
granted_otherwise row (Ok tally) e = cc
granted_otherwise row (Err refusal) e = cc

grant_otherwise : (row : Option JoinRow) (plan : Option PlanRow) (amount t : ℕ) → (grant_by row plan amount t).reply ≡ Store → ⊥
grant_otherwise None plan amount t e = cc
grant_otherwise (Some row) None amount t e = cc
grant_otherwise (Some row) (Some plan) amount t e = granted_otherwise row (grant_of (terms_in plan) (tally_in row) amount t) e

used_otherwise : (period : Option Period) (standing : Allowance) → (used_of period standing).reply ≡ Store → ⊥
used_otherwise None standing e = cc
used_otherwise (Some period) standing e = cc

shown_otherwise : (standing : Option Allowance) → (usage_shown standing).reply ≡ Store → ⊥
shown_otherwise None e = cc
shown_otherwise (Some standing) e = used_otherwise standing.period standing e

usage_otherwise : (row : Option JoinRow) (plan : Option PlanRow) (t : ℕ) → (usage_by row plan t).reply ≡ Store → ⊥
usage_otherwise None plan t e = cc
usage_otherwise (Some row) None t e = cc
usage_otherwise (Some row) (Some plan) t e = shown_otherwise (allowance_at (tally_in row).allowance (terms_in plan).quota t) e

flush_otherwise : (found : Option StageRow) → (flush found).reply ≡ Store → ⊥
flush_otherwise None e = cc
flush_otherwise (Some row) e = cc

commanded_otherwise : (lists : Lists) (t : ℕ) (command : Command) → (commanded lists t command).reply ≡ Store → ⊥
commanded_otherwise lists t (PutApi api definition) e = unless_otherwise (first_refusal (put_api_tests lists api)) _ (λ x. cc) e
commanded_otherwise lists t (Deploy api) e = deployed_otherwise (api_row lists api) (deployed lists api) e
commanded_otherwise lists t (PutStage api stage number variables) e = unless_otherwise (first_refusal (put_stage_tests lists api stage number variables)) _ (λ x. cc) e
commanded_otherwise lists t (PutCanary api stage number share variables) e =
    unless_otherwise (first_refusal (put_canary_tests lists api stage number share variables)) _ (canary_otherwise (stage_row lists api stage) number share _) e
commanded_otherwise lists t (PromoteCanary api stage) e = promote_otherwise (stage_row lists api stage) e
commanded_otherwise lists t (PutKey key value enabled) e = unless_otherwise (first_refusal (put_key_tests lists key value)) _ (λ x. cc) e
commanded_otherwise lists t (PutPlan plan throttle quota stages) e = unless_otherwise (first_refusal (put_plan_tests lists plan throttle quota stages)) _ (λ x. cc) e
commanded_otherwise lists t (JoinKey plan key) e = join_otherwise lists t plan key (plan_row lists plan) (key_row lists key) e
commanded_otherwise lists t (Grant plan key amount) e = grant_otherwise (join_row lists plan key) (plan_row lists plan) amount t e
commanded_otherwise lists t (Flush api stage) e = flush_otherwise (stage_row lists api stage) e
commanded_otherwise lists t (Usage plan key) e = usage_otherwise (join_row lists plan key) (plan_row lists plan) t e
commanded_otherwise lists t Shutdown e = cc

decided_otherwise : (key : List ℕ) (plan : PlanRow) (row : JoinRow) (made : Admission) → (decided key plan row made).reply ≡ Store → ⊥
decided_otherwise key plan row (admission.Admitted tally) e = cc
decided_otherwise key plan row (admission.Throttled level) e = cc
decided_otherwise key plan row (admission.QuotaExceeded allowance used) e = cc

by_otherwise : (key : List ℕ) (plan : Option PlanRow) (row : Option JoinRow) (t : ℕ) → (admitted_by key plan row t).reply ≡ Store → ⊥
by_otherwise key None row t e = cc
by_otherwise key (Some plan) None t e = cc
by_otherwise key (Some plan) (Some row) t e = decided_otherwise key plan row (admission_of (terms_in plan) (tally_in row) t) e

under_otherwise : (lists : Lists) (t : ℕ) (key : List ℕ) (plan : Option (List ℕ)) → (admitted_under lists t key plan).reply ≡ Store → ⊥
under_otherwise lists t key None e = cc
under_otherwise lists t key (Some plan) e = by_otherwise key (plan_row lists plan) (join_row lists plan key) t e

enabled_otherwise : (lists : Lists) (t : ℕ) (key : List ℕ) (plan : Option (List ℕ)) (enabled : Bool)
    → (cond enabled (admitted_under lists t key plan) (says InvalidKey)).reply ≡ Store → ⊥
enabled_otherwise lists t key plan true e = under_otherwise lists t key plan e
enabled_otherwise lists t key plan false e = cc

with_otherwise : (lists : Lists) (t : ℕ) (stage : List ℕ × List ℕ) (found : Option KeyRow) → (admitted_with lists t stage found).reply ≡ Store → ⊥
with_otherwise lists t stage None e = cc
with_otherwise lists t stage (Some row) e = enabled_otherwise lists t row.key (plan_for lists stage row.key) (row.enabled == 1) e

recalled_otherwise : (found : Option Policy) → recalled found ≡ Store → ⊥
recalled_otherwise None e = cc
recalled_otherwise (Some policy) e = cc

outcome_otherwise : (state : State) (place : ℕ) (event : Event) → (outcome_of state place event).reply ≡ Store → ⊥
outcome_otherwise state place (Enter moment word api stage) e = entered_otherwise state.lists place (time_of state moment) word (stage_row state.lists api stage) e
outcome_otherwise state place (Recall moment name) e = recalled_otherwise (remembered state.happened name (time_of state moment)) e
outcome_otherwise state place (Learn moment name policy ttl) e = cc
outcome_otherwise state place (Admit moment api stage value) e = with_otherwise state.lists (time_of state moment) (api, stage) (key_with state.lists value) e
outcome_otherwise state place (Admin moment command) e = commanded_otherwise state.lists (time_of state moment) command e
outcome_otherwise state place (Leave status cause) e = cc

told_lost : (changing kept : Bool) (reply : Reply) → (reply ≡ Store → ⊥) → told changing reply kept ≡ Store → kept ≡ false
told_lost changing false reply h e = refl
told_lost true true reply h e = absurd (h e)
told_lost false true reply h e = absurd (h e)

rose_where_lost : (kept : Bool) (before now : ℕ) → kept ≡ false → min (before + cond kept 0 1) (2 ^ 64 - 1) ≤ now → Rose before now
rose_where_lost true before now e h = absurd cc
rose_where_lost false before now e h = h

-- the keeper failed
pub rose : (state : State) (place : ℕ) (event : Event) (rewriting kept : Bool) (answer : Reply) (row : Option Row) (before now : KeeperFacts)
    → answer ≡ told (is_some row) (outcome_of state place event).reply kept → Went rewriting (row_of state event) kept before now → answer ≡ Store → Rose before.faults now.faults
rose state place event rewriting kept answer row before now is went store =
    rose_where_lost kept before.faults now.faults (told_lost (is_some row) kept (outcome_of state place event).reply (outcome_otherwise state place event) (sym is ∙ store)) went.faults
