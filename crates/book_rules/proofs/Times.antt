-- No reply shows a moment from the year 2100 on, over tables that a book starts from.
use Rattle.std.proofs.Common.{◌≡◌, ◌≤◌, ◌<◌, ◌+◌, ◌==◌, ℕ, Bool, true, false, not, ◌&&◌, List, [], ◌∷◌, length, reverse, cond, Option, Some, None, arith, refl}
use Rattle.std.specs.Prelude.{if◌then◌else◌, nat_le, nat_lt, is_some}
use Rattle.keeper_core.specs.Lists.{Lists, api_row, stage_row, deployment_row}
use Rattle.keeper_core.specs.declared.rows.ApiRow.{ApiRow}
use Rattle.keeper_core.specs.declared.rows.DeploymentRow.{DeploymentRow}
use Rattle.keeper_core.specs.declared.rows.StageRow.{StageRow}
use Rattle.std.specs.Prelude.{Result, Ok, Err}
use Rattle.usage_meter.specs.declared.allowance.Allowance.{Allowance}
use Rattle.usage_meter.specs.declared.period.Period.{Period}
use Rattle.usage_plans.specs.Rows.{kind_in}
use Rattle.usage_plans.specs.Tallies.{admission_of, grant_of}
use Rattle.usage_plans.specs.Rows.{tally_in, terms_in}
use Rattle.usage_plans.specs.declared.tally.Admission.{Admission}
use Rattle.usage_plans.specs.declared.tally.Admission.TheVariants as admission
use Rattle.usage_plans.specs.declared.tally.GrantRefusal.{GrantRefusal}
use Rattle.usage_plans.specs.declared.tally.Tally.{Tally}
use Rattle.usage_meter.specs.Allowances.{allowance_at}
use Rattle.keeper_core.specs.Lists.{join_row}
use Rattle.keeper_core.specs.declared.rows.KeyRow.{KeyRow}
use Rattle.keeper_core.specs.declared.rows.PlanRow.{PlanRow}
use Rattle.book_rules.specs.Admissions.{admitted, admitted_by, admitted_under, admitted_with, decided, plan_for}
use Rattle.book_rules.specs.Commands.{commanded}
use Rattle.book_rules.specs.Limits.{most_deployments, most_joins}
use Rattle.book_rules.specs.Outcomes.{Outcome, says, unless, writes, first_refusal}
use Rattle.book_rules.specs.PlanCommands.{put_key_tests, put_plan_tests, join_tests, join_by, join_anew, granted, grant_by, usage_by, usage_shown, used_of, key_with}
use Rattle.book_rules.specs.StageCommands.{deployed, deployment_by, put_api_tests, put_stage_tests, put_canary_tests, canary_for, promote, promote_tests, next_deployment, flush}
use Rattle.std.proofs.lemmas.Bool.{and_parts}
use Rattle.keeper_core.specs.Lists.{key_row, plan_row}
use Rattle.keeper_core.specs.declared.rows.JoinRow.{JoinRow}
use Rattle.keeper_core.specs.declared.table.Table.{Table}
use Rattle.keeper_core.specs.declared.table.Table.TheVariants as table
use Rattle.book_rules.specs.Good.{bad_row, first_bad, first_refused, refused_by, takes_meta, takes_api, takes_deployment, takes_stage, takes_key, takes_plan, takes_join, takes_of_plan, takes_period, joined_already}
use Rattle.book_rules.specs.History.{reply, state_of, state_after, is_changing}
use Rattle.call_facts.specs.declared.vars.Vars.{Vars}
use Rattle.policy_core.specs.declared.policy.Policy.{Policy}
use Rattle.policy_memory.specs.Remembered.{remembered}
use Rattle.book_rules.specs.Machine.{State, opened, latest_of, time_of, time_at, told, is_taken, viewed, entered, entered_as, outcome_of, recalled, last_moment}
use Rattle.book_rules.specs.Stored.{merged_in, variables_in}
use Rattle.book_rules.specs.Times.{IsInTime}
use Rattle.book_rules.specs.declared.events.Command.{Command}
use Rattle.book_rules.specs.declared.events.Command.TheVariants.{PutApi, Deploy, PutStage, PutCanary, PromoteCanary, PutKey, PutPlan, JoinKey, Grant, Flush, Usage, Shutdown}
use Rattle.book_rules.specs.declared.events.Entry.{Entry}
use Rattle.book_rules.specs.declared.events.Event.{Event}
use Rattle.book_rules.specs.declared.events.Event.TheVariants.{Enter, Recall, Learn, Admit, Admin, Leave}
use Rattle.book_rules.specs.declared.replies.Refusal.{Refusal}
use Rattle.book_rules.specs.declared.replies.Refusal.TheVariants.{Full}
use Rattle.book_rules.specs.declared.replies.Reply.{Reply}
use Rattle.book_rules.specs.declared.replies.Reply.TheVariants.{Deployed, InvalidKey, Refused}
use Rattle.keeper_core.specs.declared.rows.Row.TheVariants.{Deployment}

time_within : (s : State) (moment : ℕ) → s.latest ≤ 4102444799999 → time_of s moment ≤ 4102444799999
unfolding last_moment
time_within s moment h = omega (arith, h)

event_within : (s : State) (event : Event) → s.latest ≤ 4102444799999 → time_at s event ≤ 4102444799999
event_within s (Enter moment word api stage) h = time_within s moment h
event_within s (Recall moment name) h = time_within s moment h
event_within s (Learn moment name policy ttl) h = time_within s moment h
event_within s (Admit moment api stage value) h = time_within s moment h
event_within s (Admin moment command) h = time_within s moment h
event_within s (Leave status cause) h = h

latest_within : (opening : Lists) (older : List Entry) → latest_of opening.joins ≤ 4102444799999 → (state_of (opened opening) older).latest ≤ 4102444799999
latest_within opening [] h = h
latest_within opening (newest ∷ older) h = event_within (state_of (opened opening) older) newest.event (latest_within opening older h)

told_in_time : (changing kept : Bool) (r : Reply) → IsInTime r → IsInTime (told changing r kept)
told_in_time true true r h = h
told_in_time true false r h = tt
told_in_time false true r h = h
told_in_time false false r h = h

viewed_in_time : (place at : ℕ) (canary : Bool) (number : ℕ) (variables : Vars) (found : Option DeploymentRow) → at ≤ 4102444799999 → IsInTime (viewed place at canary number variables found)
viewed_in_time place at canary number variables None h = tt
viewed_in_time place at canary number variables (Some deployment) h = omega (arith, h)

entered_as_in_time : (lists : Lists) (place at : ℕ) (canary : Bool) (row : StageRow) → at ≤ 4102444799999 → IsInTime (entered_as lists place at canary row)
entered_as_in_time lists place at true row h = viewed_in_time place at true row.canary (merged_in row) (deployment_row lists row.api row.canary) h
entered_as_in_time lists place at false row h = viewed_in_time place at false row.deployment (variables_in row.vars) (deployment_row lists row.api row.deployment) h

entered_in_time : (lists : Lists) (place at word : ℕ) (found : Option StageRow) → at ≤ 4102444799999 → IsInTime (entered lists place at word found)
entered_in_time lists place at word None h = tt
entered_in_time lists place at word (Some row) h = entered_as_in_time lists place at (is_taken row word) row h

unless_in_time : (refusal : Option Refusal) (outcome : Outcome) → IsInTime outcome.reply → IsInTime (unless refusal outcome).reply
unless_in_time None outcome h = h
unless_in_time (Some refusal) outcome h = tt

room_in_time : (full : Bool) (row : ApiRow) (count : ℕ)
    → IsInTime (cond full (says (Refused Full)) (writes (Deployment (next_deployment row count)) (Deployed (count + 1)))).reply
room_in_time true row count = tt
room_in_time false row count = tt

deployed_in_time : (found : Option ApiRow) (count : ℕ) → IsInTime (deployment_by found count).reply
deployed_in_time None count = tt
deployed_in_time (Some row) count = room_in_time (nat_le most_deployments count) row count

canary_in_time : (found : Option StageRow) (number share : ℕ) (vars : List ℕ) → IsInTime (canary_for found number share vars).reply
canary_in_time None number share vars = tt
canary_in_time (Some row) number share vars = tt

promote_in_time : (found : Option StageRow) → IsInTime (promote found).reply
promote_in_time None = tt
promote_in_time (Some row) = unless_in_time (first_refusal (promote_tests row)) _ tt

join_anew_in_time : (lists : Lists) (t : ℕ) (plan key : List ℕ) (row : PlanRow) (found : Option JoinRow) → IsInTime (join_anew lists t plan key row found).reply
join_anew_in_time lists t plan key row (Some joined) = tt
join_anew_in_time lists t plan key row None = unless_in_time (first_refusal (join_tests lists plan key row)) _ tt

join_by_in_time : (lists : Lists) (t : ℕ) (plan key : List ℕ) (row : Option PlanRow) (found : Option KeyRow) → IsInTime (join_by lists t plan key row found).reply
join_by_in_time lists t plan key None found = tt
join_by_in_time lists t plan key (Some row) None = tt
join_by_in_time lists t plan key (Some row) (Some found) = join_anew_in_time lists t plan key row (join_row lists plan key)

granted_in_time : (row : JoinRow) (made : Result Tally GrantRefusal) → IsInTime (granted row made).reply
granted_in_time row (Ok tally) = tt
granted_in_time row (Err refusal) = tt

grant_in_time : (row : Option JoinRow) (plan : Option PlanRow) (amount t : ℕ) → IsInTime (grant_by row plan amount t).reply
grant_in_time None plan amount t = tt
grant_in_time (Some row) None amount t = tt
grant_in_time (Some row) (Some plan) amount t = granted_in_time row (grant_of (terms_in plan) (tally_in row) amount t)

used_in_time : (period : Option Period) (standing : Allowance) → IsInTime (used_of period standing).reply
used_in_time None standing = tt
used_in_time (Some period) standing = tt

shown_in_time : (standing : Option Allowance) → IsInTime (usage_shown standing).reply
shown_in_time None = tt
shown_in_time (Some standing) = used_in_time standing.period standing

usage_in_time : (row : Option JoinRow) (plan : Option PlanRow) (t : ℕ) → IsInTime (usage_by row plan t).reply
usage_in_time None plan t = tt
usage_in_time (Some row) None t = tt
usage_in_time (Some row) (Some plan) t = shown_in_time (allowance_at (tally_in row).allowance (terms_in plan).quota t)

flush_in_time : (found : Option StageRow) → IsInTime (flush found).reply
flush_in_time None = tt
flush_in_time (Some row) = tt

commanded_in_time : (lists : Lists) (t : ℕ) (command : Command) → IsInTime (commanded lists t command).reply
commanded_in_time lists t (PutApi api definition) = unless_in_time (first_refusal (put_api_tests lists api)) _ tt
commanded_in_time lists t (Deploy api) = deployed_in_time (api_row lists api) (deployed lists api)
commanded_in_time lists t (PutStage api stage number variables) = unless_in_time (first_refusal (put_stage_tests lists api stage number variables)) _ tt
commanded_in_time lists t (PutCanary api stage number share variables) =
    unless_in_time (first_refusal (put_canary_tests lists api stage number share variables)) _ (canary_in_time (stage_row lists api stage) number share _)
commanded_in_time lists t (PromoteCanary api stage) = promote_in_time (stage_row lists api stage)
commanded_in_time lists t (PutKey key value enabled) = unless_in_time (first_refusal (put_key_tests lists key value)) _ tt
commanded_in_time lists t (PutPlan plan throttle quota stages) = unless_in_time (first_refusal (put_plan_tests lists plan throttle quota stages)) _ tt
commanded_in_time lists t (JoinKey plan key) = join_by_in_time lists t plan key (plan_row lists plan) (key_row lists key)
commanded_in_time lists t (Grant plan key amount) = grant_in_time (join_row lists plan key) (plan_row lists plan) amount t
commanded_in_time lists t (Flush api stage) = flush_in_time (stage_row lists api stage)
commanded_in_time lists t (Usage plan key) = usage_in_time (join_row lists plan key) (plan_row lists plan) t
commanded_in_time lists t Shutdown = tt

decided_in_time : (key : List ℕ) (plan : PlanRow) (row : JoinRow) (made : Admission) → IsInTime (decided key plan row made).reply
decided_in_time key plan row (admission.Admitted tally) = tt
decided_in_time key plan row (admission.Throttled level) = tt
decided_in_time key plan row (admission.QuotaExceeded allowance used) = tt

admitted_by_in_time : (key : List ℕ) (plan : Option PlanRow) (row : Option JoinRow) (t : ℕ) → IsInTime (admitted_by key plan row t).reply
admitted_by_in_time key None row t = tt
admitted_by_in_time key (Some plan) None t = tt
admitted_by_in_time key (Some plan) (Some row) t = decided_in_time key plan row (admission_of (terms_in plan) (tally_in row) t)

admitted_under_in_time : (lists : Lists) (t : ℕ) (key : List ℕ) (plan : Option (List ℕ)) → IsInTime (admitted_under lists t key plan).reply
admitted_under_in_time lists t key None = tt
admitted_under_in_time lists t key (Some plan) = admitted_by_in_time key (plan_row lists plan) (join_row lists plan key) t

enabled_in_time : (lists : Lists) (t : ℕ) (key : List ℕ) (plan : Option (List ℕ)) (enabled : Bool)
    → IsInTime (cond enabled (admitted_under lists t key plan) (says InvalidKey)).reply
enabled_in_time lists t key plan true = admitted_under_in_time lists t key plan
enabled_in_time lists t key plan false = tt

admitted_in_time : (lists : Lists) (t : ℕ) (stage : List ℕ × List ℕ) (found : Option KeyRow) → IsInTime (admitted_with lists t stage found).reply
admitted_in_time lists t stage None = tt
admitted_in_time lists t stage (Some row) = enabled_in_time lists t row.key (plan_for lists stage row.key) (row.enabled == 1)

recalled_in_time : (found : Option Policy) → IsInTime (recalled found)
recalled_in_time None = tt
recalled_in_time (Some policy) = tt

at_in_time : (s : State) (place : ℕ) (event : Event) → s.latest ≤ 4102444799999 → IsInTime (outcome_of s place event).reply
at_in_time s place (Enter moment word api stage) h = entered_in_time s.lists place (time_of s moment) word (stage_row s.lists api stage) (time_within s moment h)
at_in_time s place (Recall moment name) h = recalled_in_time (remembered s.happened name (time_of s moment))
at_in_time s place (Learn moment name policy ttl) h = tt
at_in_time s place (Admit moment api stage value) h = admitted_in_time s.lists (time_of s moment) (api, stage) (key_with s.lists value)
at_in_time s place (Admin moment command) h = commanded_in_time s.lists (time_of s moment) command
at_in_time s place (Leave status cause) h = tt

after_within : (opening : Lists) (history : List Entry) → latest_of opening.joins ≤ 4102444799999 → (state_after opening history).latest ≤ 4102444799999
unfolding state_after
after_within opening history h = latest_within opening (reverse history) h

pub reply_in_time : (opening : Lists) (history : List Entry) (event : Event) (kept : Bool) → latest_of opening.joins ≤ 4102444799999 → IsInTime (reply opening history event kept)
reply_in_time opening history event kept h =
    told_in_time (is_changing opening history event) kept (outcome_of (state_after opening history) (length history) event).reply
    (at_in_time (state_after opening history) (length history) event (after_within opening history h))

-- Tables that a book starts from have no moment from the year 2100 on.
taken_first : (b : Bool) (n : ℕ) (rest : Option ℕ) → cond (not b) (Some n) rest ≡ None → (b ≡ true) × (rest ≡ None)
taken_first true n rest e = (refl, e)
taken_first false n rest e = absurd cc

join_in_time : (lists : Lists) (before : List JoinRow) (row : JoinRow) → takes_join lists before row ≡ true → row.at ≤ 4102444799999
join_in_time lists before row h =
    let a = nat_lt (length before) most_joins && is_some (key_row lists row.key) && takes_of_plan row (plan_row lists row.plan) in
    let d = nat_lt row.at 4102444800000 in
    let e = takes_period row (kind_in row.pkind) in
    let f = not (joined_already lists before row) in
    let early : d ≡ true = (and_parts a d (and_parts (a && d) e (and_parts (a && d && e) f h).0).0).1 in
    grind arith

joins_in_time : (lists : Lists) (before rows : List JoinRow) → first_refused (λ b r. not (takes_join lists b r)) before rows ≡ None → latest_of rows ≤ 4102444799999
joins_in_time lists before [] e = omega arith
joins_in_time lists before (row ∷ rows) e =
    let here = taken_first (takes_join lists before row) (length before) (first_refused (λ b r. not (takes_join lists b r)) (row ∷ before) rows) e in
    let first = join_in_time lists before row here.0 in
    let rest = joins_in_time lists (row ∷ before) rows here.1 in
    omega (arith, first, rest)

later_bad : (table : Table) (found : Option ℕ) (more : List (Table × Option ℕ)) → first_bad ((table, found) ∷ more) ≡ None → (found ≡ None) × (first_bad more ≡ None)
later_bad table None more e = (refl, e)
later_bad table (Some row) more e = absurd cc

pub opens_in_time : (lists : Lists) → bad_row lists ≡ None → latest_of lists.joins ≤ 4102444799999
unfolding bad_row
opens_in_time lists e =
    let from_joins : List (Table × Option ℕ) = (table.Joins, refused_by (takes_join lists) lists.joins) ∷ [] in
    let from_plans : List (Table × Option ℕ) = (table.Plans, refused_by (takes_plan lists) lists.plans) ∷ from_joins in
    let from_keys : List (Table × Option ℕ) = (table.Keys, refused_by takes_key lists.keys) ∷ from_plans in
    let from_stages : List (Table × Option ℕ) = (table.Stages, refused_by (takes_stage lists) lists.stages) ∷ from_keys in
    let from_deployments : List (Table × Option ℕ) = (table.Deployments, refused_by (takes_deployment lists) lists.deployments) ∷ from_stages in
    let from_apis : List (Table × Option ℕ) = (table.Apis, refused_by takes_api lists.apis) ∷ from_deployments in
    let apis = (later_bad table.Meta (refused_by takes_meta lists.metas) from_apis e).1 in
    let deployments = (later_bad table.Apis (refused_by takes_api lists.apis) from_deployments apis).1 in
    let stages = (later_bad table.Deployments (refused_by (takes_deployment lists) lists.deployments) from_stages deployments).1 in
    let keys = (later_bad table.Stages (refused_by (takes_stage lists) lists.stages) from_keys stages).1 in
    let plans = (later_bad table.Keys (refused_by takes_key lists.keys) from_plans keys).1 in
    let joins = (later_bad table.Plans (refused_by (takes_plan lists) lists.plans) from_joins plans).1 in
    joins_in_time lists [] lists.joins (later_bad table.Joins (refused_by (takes_join lists) lists.joins) [] joins).0
