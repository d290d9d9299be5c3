-- The machine: what an event comes to, and what stands after it.
use Rattle.std.specs.Prelude.{ℕ, ◌==◌, min, max, Bool, true, false, not, ◌&&◌, ◌||◌, List, [], ◌∷◌, Option, Some, None, is_some, if◌then◌else◌}
use Rattle.keeper_core.specs.Lists.{Lists, put, stage_row, deployment_row}
use Rattle.keeper_core.specs.declared.rows.Row.{Row}
use Rattle.keeper_core.specs.declared.rows.StageRow.{StageRow}
use Rattle.keeper_core.specs.declared.rows.DeploymentRow.{DeploymentRow}
use Rattle.keeper_core.specs.declared.rows.JoinRow.{JoinRow}
use Rattle.call_facts.specs.declared.vars.Vars.{Vars}
use Rattle.policy_core.specs.declared.policy.Policy.{Policy}
use Rattle.policy_memory.specs.Remembered.{Happening, learned, flushed, remembered}
use Rattle.stage_canary.specs.Canaries.{takes_canary}
use Rattle.book_rules.specs.Admissions.{admitted}
use Rattle.book_rules.specs.Commands.{commanded}
use Rattle.book_rules.specs.Outcomes.{Outcome, says}
use Rattle.book_rules.specs.Stored.{deployed_of, merged_in, variables_in}
use Rattle.book_rules.specs.declared.events.Command.{Command}
use Rattle.book_rules.specs.declared.events.Command.TheVariants.{PutApi, Deploy, PutStage, PutCanary, PromoteCanary, PutKey, PutPlan, JoinKey, Grant, Flush, Usage, Shutdown}
use Rattle.book_rules.specs.declared.events.Entry.{Entry}
use Rattle.book_rules.specs.declared.events.Event.{Event}
use Rattle.book_rules.specs.declared.events.Event.TheVariants.{Enter, Recall, Learn, Admit, Admin, Leave}
use Rattle.book_rules.specs.declared.replies.Reply.{Reply}
use Rattle.book_rules.specs.declared.replies.Reply.TheVariants.{Entered, NoStage, Remembered, NotRemembered, Learned, Admitted, InvalidKey, Throttled, QuotaExceeded, Store, Left, Done, Deployed, Refused}
use Rattle.book_rules.specs.declared.replies.Reply.TheVariants.{Usage as Used}

-- the tables, the latest moment, whether a Shutdown was taken, and what happened to the policies that are remembered, the newest first
pub record State : Type 0 where
  pub lists : Lists
  pub latest : ℕ
  pub closing : Bool
  pub happened : List Happening

-- the greatest moment of the rows of joins
abbrev pub latest_of : List JoinRow → ℕ
latest_of [] = 0
latest_of (row ∷ rows) = max row.at (latest_of rows)

-- what stands before the first event
abbrev pub opened : Lists → State
opened lists = record { lists = lists; latest = latest_of lists.joins; closing = false; happened = [] }

-- the last moment of the year 2099: a later one is read as this
unfoldable pub last_moment : ℕ
last_moment = 4102444799999

-- when an event of this moment happens: time never falls
abbrev pub time_of : State → ℕ → ℕ
time_of state moment = max (min moment last_moment) state.latest

abbrev pub time_at : State → Event → ℕ
time_at state (Enter moment word api stage) = time_of state moment
time_at state (Recall moment name) = time_of state moment
time_at state (Learn moment name policy ttl) = time_of state moment
time_at state (Admit moment api stage value) = time_of state moment
time_at state (Admin moment command) = time_of state moment
time_at state (Leave status cause) = state.latest

-- a call of this word is taken to the stage's canary, where it has one
abbrev pub is_taken : StageRow → ℕ → Bool
is_taken row word = not (row.canary == 0) && takes_canary row.share word

-- the view of a stage by this deployment of its API, with these variables
abbrev pub viewed : ℕ → ℕ → Bool → ℕ → Vars → Option DeploymentRow → Reply
viewed place at canary number variables None = NoStage
viewed place at canary number variables (Some deployment) =
    Entered (record { place = place; at = at; deployment = number; canary = canary; api = deployed_of deployment; variables = variables })

-- by the canary's deployment with the merged variables, or by the stage's own
abbrev pub entered_as : Lists → ℕ → ℕ → Bool → StageRow → Reply
entered_as lists place at true row = viewed place at true row.canary (merged_in row) (deployment_row lists row.api row.canary)
entered_as lists place at false row = viewed place at false row.deployment (variables_in row.vars) (deployment_row lists row.api row.deployment)

abbrev pub entered : Lists → ℕ → ℕ → ℕ → Option StageRow → Reply
entered lists place at word None = NoStage
entered lists place at word (Some row) = entered_as lists place at (is_taken row word) row

-- the policy that is remembered, or that there is none
abbrev pub recalled : Option Policy → Reply
recalled None = NotRemembered
recalled (Some policy) = Remembered policy

-- what an event comes to at this place
abbrev pub outcome_of : State → ℕ → Event → Outcome
outcome_of state place (Enter moment word api stage) = says (entered state.lists place (time_of state moment) word (stage_row state.lists api stage))
outcome_of state place (Recall moment name) = says (recalled (remembered state.happened name (time_of state moment)))
outcome_of state place (Learn moment name policy ttl) = says Learned
outcome_of state place (Admit moment api stage value) = admitted state.lists (time_of state moment) (api, stage) value
outcome_of state place (Admin moment command) = commanded state.lists (time_of state moment) command
outcome_of state place (Leave status cause) = says (Left state.closing)

-- an event that writes a row is changing; what it writes does not depend on its place
abbrev pub row_of : State → Event → Option Row
row_of state event = (outcome_of state 0 event).row

-- To make this reply, or to write this row, may take memory: a view shares a definition and variables, and a policy is shared that is
-- recalled or learned.
abbrev pub is_shared : Reply → Bool
is_shared (Entered view) = true
is_shared NoStage = false
is_shared (Remembered policy) = true
is_shared NotRemembered = false
is_shared Learned = true
is_shared (Admitted key plan) = false
is_shared InvalidKey = false
is_shared (Throttled level) = false
is_shared (QuotaExceeded allowance used) = false
is_shared Store = false
is_shared (Left closing) = false
is_shared Done = false
is_shared (Deployed number) = false
is_shared (Used usage) = false
is_shared (Refused refusal) = false

abbrev pub takes_memory : Outcome → Bool
takes_memory outcome = is_some outcome.row || is_shared outcome.reply

-- a flush is noted, which may take memory too
abbrev pub is_flush : Event → Bool
is_flush (Enter moment word api stage) = false
is_flush (Recall moment name) = false
is_flush (Learn moment name policy ttl) = false
is_flush (Admit moment api stage value) = false
is_flush (Admin moment (PutApi api definition)) = false
is_flush (Admin moment (Deploy api)) = false
is_flush (Admin moment (PutStage api stage number variables)) = false
is_flush (Admin moment (PutCanary api stage number share variables)) = false
is_flush (Admin moment (PromoteCanary api stage)) = false
is_flush (Admin moment (PutKey key value enabled)) = false
is_flush (Admin moment (PutPlan plan throttle quota stages)) = false
is_flush (Admin moment (JoinKey plan key)) = false
is_flush (Admin moment (Grant plan key amount)) = false
is_flush (Admin moment (Flush api stage)) = true
is_flush (Admin moment (Usage plan key)) = false
is_flush (Admin moment Shutdown) = false
is_flush (Leave status cause) = false

-- the reply where the change was kept, and where it was not
abbrev pub told : Bool → Reply → Bool → Reply
told changing reply kept = if changing && not kept then Store else reply

abbrev pub put_kept : Option Row → Bool → Lists → Lists
put_kept None kept lists = lists
put_kept (Some row) kept lists = if kept then put row lists else lists

-- a Shutdown closes the session
abbrev pub shuts : Event → Bool
shuts (Enter moment word api stage) = false
shuts (Recall moment name) = false
shuts (Learn moment name policy ttl) = false
shuts (Admit moment api stage value) = false
shuts (Admin moment (PutApi api definition)) = false
shuts (Admin moment (Deploy api)) = false
shuts (Admin moment (PutStage api stage number variables)) = false
shuts (Admin moment (PutCanary api stage number share variables)) = false
shuts (Admin moment (PromoteCanary api stage)) = false
shuts (Admin moment (PutKey key value enabled)) = false
shuts (Admin moment (PutPlan plan throttle quota stages)) = false
shuts (Admin moment (JoinKey plan key)) = false
shuts (Admin moment (Grant plan key amount)) = false
shuts (Admin moment (Flush api stage)) = false
shuts (Admin moment (Usage plan key)) = false
shuts (Admin moment Shutdown) = true
shuts (Leave status cause) = false

-- a stage that stands is flushed
abbrev pub flushed_at : Option StageRow → List ℕ → List ℕ → List Happening → List Happening
flushed_at None api stage older = older
flushed_at (Some row) api stage older = flushed api stage ∷ older

-- what happened behind a command: a Flush that was answered Done flushed its stage
abbrev pub happened_by : State → Command → List Happening
happened_by state (PutApi api definition) = state.happened
happened_by state (Deploy api) = state.happened
happened_by state (PutStage api stage number variables) = state.happened
happened_by state (PutCanary api stage number share variables) = state.happened
happened_by state (PromoteCanary api stage) = state.happened
happened_by state (PutKey key value enabled) = state.happened
happened_by state (PutPlan plan throttle quota stages) = state.happened
happened_by state (JoinKey plan key) = state.happened
happened_by state (Grant plan key amount) = state.happened
happened_by state (Flush api stage) = flushed_at (stage_row state.lists api stage) api stage state.happened
happened_by state (Usage plan key) = state.happened
happened_by state Shutdown = state.happened

-- and behind an event: a Learn is learned at its moment
abbrev pub happened_behind : State → Event → List Happening
happened_behind state (Enter moment word api stage) = state.happened
happened_behind state (Recall moment name) = state.happened
happened_behind state (Learn moment name policy ttl) = learned name (record { policy = policy; ttl = ttl; at = time_of state moment }) ∷ state.happened
happened_behind state (Admit moment api stage value) = state.happened
happened_behind state (Admin moment command) = happened_by state command
happened_behind state (Leave status cause) = state.happened

-- what stands after an entry
abbrev pub after : State → Entry → State
after state entry =
    record {
      lists = put_kept (row_of state entry.event) entry.kept state.lists;
      latest = time_at state entry.event;
      closing = state.closing || shuts entry.event;
      happened = happened_behind state entry.event;
    }
