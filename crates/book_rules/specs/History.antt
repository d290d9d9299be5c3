-- Histories: their sizes and limits, what stands after one, and the plan of the keeper's calls.
use Rattle.std.specs.Prelude.{◌≡◌, ℕ, ◌+◌, ◌-◌, ◌^◌, ◌≤◌, min, nat_lt, nat_le, Bool, true, false, not, ◌&&◌, ◌||◌, List, [], ◌∷◌, length, reverse, sum_by, Option, Some, None, is_some, if◌then◌else◌}
use Rattle.keeper_core.specs.Lists.{Lists}
use Rattle.keeper_core.specs.Keeping.{KeeperFacts, Planned, fails_now, one_more}
use Rattle.policy_core.specs.declared.policy.Policy.{Policy}
use Rattle.policy_core.specs.declared.policy.Statement.{Statement}
use Rattle.policy_memory.specs.declared.names.PolicyName.{PolicyName}
use Rattle.book_rules.specs.Machine.{State, opened, outcome_of, row_of, told, after, takes_memory, is_flush}
use Rattle.book_rules.specs.Outcomes.{Outcome}
use Rattle.book_rules.specs.declared.events.Limits.{Limits}
use Rattle.book_rules.specs.declared.events.Command.{Command}
use Rattle.book_rules.specs.declared.events.Command.TheVariants.{PutApi, Deploy, PutStage, PutCanary, PromoteCanary, PutKey, PutPlan, JoinKey, Grant, Flush, Usage, Shutdown}
use Rattle.book_rules.specs.declared.events.Event.{Event}
use Rattle.book_rules.specs.declared.events.Event.TheVariants.{Enter, Recall, Learn, Admit, Admin, Leave}
use Rattle.book_rules.specs.declared.events.Entry.{Entry}
use Rattle.book_rules.specs.Times.{IsInTime}
use Rattle.book_rules.specs.declared.replies.Reply.{Reply}

-- what the two texts of some pairs sum up to
abbrev pub pairs_size : List (List ℕ × List ℕ) → ℕ
pairs_size pairs = sum_by (λ pair. length pair.0 + length pair.1) pairs

-- what the texts of an event sum up to
abbrev pub command_size : Command → ℕ
command_size (PutApi api definition) = length api + length definition.source
command_size (Deploy api) = length api
command_size (PutStage api stage number variables) = length api + length stage + pairs_size variables.pairs
command_size (PutCanary api stage number share variables) = length api + length stage + pairs_size variables.pairs
command_size (PromoteCanary api stage) = length api + length stage
command_size (PutKey key value enabled) = length key + length value
command_size (PutPlan plan throttle quota stages) = length plan + pairs_size stages
command_size (JoinKey plan key) = length plan + length key
command_size (Grant plan key amount) = length plan + length key
command_size (Flush api stage) = length api + length stage
command_size (Usage plan key) = length plan + length key
command_size Shutdown = 0

abbrev pub texts_size : List (List ℕ) → ℕ
texts_size texts = sum_by (λ (text : List ℕ). length text) texts

abbrev pub statement_size : Statement → ℕ
statement_size s = texts_size s.actions + texts_size s.resources

abbrev pub policy_size : Policy → ℕ
policy_size policy = length policy.principal + (sum_by statement_size policy.statements + pairs_size policy.context)

abbrev pub name_size : PolicyName → ℕ
name_size name = length name.api + length name.stage + (length name.authorizer + length name.token)

abbrev pub size : Event → ℕ
size (Enter moment word api stage) = length api + length stage
size (Recall moment name) = name_size name
size (Learn moment name policy ttl) = name_size name + policy_size policy
size (Admit moment api stage value) = length api + length stage + length value
size (Admin moment command) = command_size command
size (Leave status cause) = 0

abbrev pub total_size : List Entry → ℕ
total_size history = sum_by (λ (entry : Entry). size entry.event) history

-- a sum as far as a number of 128 bits tells it
abbrev pub capped : ℕ → ℕ
capped n = min n (2 ^ 128 - 1)

-- an event more would pass a limit
abbrev pub is_full : Limits → List Entry → Event → Bool
is_full limits history event = nat_le limits.entries (length history) || nat_lt limits.bytes (total_size history + size event)

-- what stands after some entries, the newest first
abbrev pub state_of : State → List Entry → State
state_of state [] = state
state_of state (newest ∷ older) = after (state_of state older) newest

-- what stands after a history over these opening tables
unfoldable pub state_after : Lists → List Entry → State
state_after opening history = state_of (opened opening) (reverse history)

-- the tables after a history
abbrev pub tables_after : Lists → List Entry → Lists
tables_after opening history = (state_after opening history).lists

-- a Shutdown stands in the history
abbrev pub is_closing : Lists → List Entry → Bool
is_closing opening history = (state_after opening history).closing

-- an event after this history is changing: it writes a row where it is kept
abbrev pub is_changing : Lists → List Entry → Event → Bool
is_changing opening history event = is_some (row_of (state_after opening history) event)

-- the reply to an event after this history, by whether its change was kept
abbrev pub reply : Lists → List Entry → Event → Bool → Reply
reply opening history event kept =
    told (is_changing opening history event) (outcome_of (state_after opening history) (length history) event).reply kept

-- how many entries are not kept
abbrev pub not_kept : List Entry → ℕ
not_kept history = sum_by (λ (entry : Entry). if entry.kept then 0 else 1) history

-- An admission and a grant rewrite a row in its place, by one call of the keeper.
abbrev pub rewrites_by : Command → Bool
rewrites_by (PutApi api definition) = false
rewrites_by (Deploy api) = false
rewrites_by (PutStage api stage number variables) = false
rewrites_by (PutCanary api stage number share variables) = false
rewrites_by (PromoteCanary api stage) = false
rewrites_by (PutKey key value enabled) = false
rewrites_by (PutPlan plan throttle quota stages) = false
rewrites_by (JoinKey plan key) = false
rewrites_by (Grant plan key amount) = true
rewrites_by (Flush api stage) = false
rewrites_by (Usage plan key) = false
rewrites_by Shutdown = false

abbrev pub rewrites : Event → Bool
rewrites (Enter moment word api stage) = false
rewrites (Recall moment name) = false
rewrites (Learn moment name policy ttl) = false
rewrites (Admit moment api stage value) = true
rewrites (Admin moment command) = rewrites_by command
rewrites (Leave status cause) = false

-- Memory may run out where an outcome takes some, and where a flush is noted. A row that a keeper rewrites in its place takes none.
abbrev pub wants_memory : Bool → Event → Outcome → Bool
wants_memory in_place event outcome = takes_memory outcome && not (in_place && rewrites event) || is_flush event

-- Another change makes two calls, the second where the first succeeds. A change is kept where all of its calls succeed.
abbrev pub keeps : Bool → Planned → Bool
keeps true plan = not (fails_now plan)
keeps false plan = not (fails_now plan || fails_now (one_more plan))

abbrev pub calls_of_a_change : Bool → Planned → Planned
calls_of_a_change true plan = one_more plan
calls_of_a_change false plan = if fails_now plan then one_more plan else one_more (one_more plan)

abbrev pub calls_of : Bool → Bool → Planned → Planned
calls_of rewriting changing plan = if changing then calls_of_a_change rewriting plan else plan

-- the plan of the calls that fail, after some entries, the newest first
abbrev pub plan_of : Lists → Planned → List Entry → Planned
plan_of opening plan [] = plan
plan_of opening plan (newest ∷ older) =
    calls_of (rewrites newest.event) (is_some (row_of (state_of (opened opening) older) newest.event)) (plan_of opening plan older)

unfoldable pub plan_after : Lists → Planned → List Entry → Planned
plan_after opening plan history = plan_of opening plan (reverse history)

-- what no event changes: the opening tables, the limits, and the keeper behind its load
pub record Base : Type 0 where
  pub opening : Lists
  pub limits : Limits
  pub start : KeeperFacts

-- a change is kept as planned, where the keeper tells which of its calls fail
abbrev pub IsAsPlanned : Base → List Entry → Entry → Option Planned → Type 0
IsAsPlanned base before entry None = Unit {0}
IsAsPlanned base before entry (Some plan) =
    is_changing base.opening before entry.event ≡ true → entry.kept ≡ keeps (rewrites entry.event) (plan_after base.opening plan before)

-- There was room for the entry, and the reply is the machine's at its place, with a moment before the year 2100; only a changing event
-- is not kept, and where it is told which calls fail, exactly by these.
pub record Answers (base : Base) (before : List Entry) (entry : Entry) (answer : Reply) : Type 0 where
  pub room : is_full base.limits before entry.event ≡ false
  pub reply : answer ≡ reply base.opening before entry.event entry.kept
  pub in_time : IsInTime answer
  pub else_kept : is_changing base.opening before entry.event ≡ false → entry.kept ≡ true
  pub planned : IsAsPlanned base before entry base.start.planned
