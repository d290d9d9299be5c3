-- What is remembered of the policies that were learned, over any history from any tables.
use Rattle.std.specs.Prelude.{◌≡◌, ℕ, ◌+◌, ◌*◌, ◌<◌, Bool, true, false, ◌&&◌, List, [], ◌∷◌, ◌++◌, length, reverse, is_some}
use Rattle.keeper_core.specs.Lists.{Lists, stage_row}
use Rattle.policy_core.specs.declared.policy.Policy.{Policy}
use Rattle.policy_memory.specs.Names.{same_name, is_of}
use Rattle.policy_memory.specs.Remembered.{each_once}
use Rattle.policy_memory.specs.declared.names.PolicyName.{PolicyName}
use Rattle.book_rules.specs.History.{reply, state_after, state_of}
use Rattle.book_rules.specs.Machine.{State, time_of}
use Rattle.book_rules.specs.declared.events.Command.{Command}
use Rattle.book_rules.specs.declared.events.Command.TheVariants.{PutApi, Deploy, PutStage, PutCanary, PromoteCanary, PutKey, PutPlan, JoinKey, Grant, Flush, Usage, Shutdown}
use Rattle.book_rules.specs.declared.events.Entry.{Entry}
use Rattle.book_rules.specs.declared.events.Event.{Event}
use Rattle.book_rules.specs.declared.events.Event.TheVariants.{Enter, Recall, Learn, Admit, Admin, Leave}
use Rattle.book_rules.specs.declared.replies.Reply.TheVariants.{Remembered}

-- the name under which an event learns a policy, where it is a Learn
abbrev pub names_of : Event → List PolicyName
names_of (Enter moment word api stage) = []
names_of (Recall moment name) = []
names_of (Learn moment name policy ttl) = name ∷ []
names_of (Admit moment api stage value) = []
names_of (Admin moment command) = []
names_of (Leave status cause) = []

-- the names under which entries learn policies
abbrev pub names_in : List Entry → List PolicyName
names_in [] = []
names_in (entry ∷ entries) = names_of entry.event ++ names_in entries

-- this name is none of them
abbrev pub IsNoneOf : PolicyName → List PolicyName → Type 0
IsNoneOf name [] = Unit {0}
IsNoneOf name (other ∷ others) = (same_name name other ≡ false) × IsNoneOf name others

-- A Flush of the name's stage, where it stands, forgets it. It is answered Done.
abbrev pub forgets_by : Lists → PolicyName → Command → Bool
forgets_by lists name (PutApi api definition) = false
forgets_by lists name (Deploy api) = false
forgets_by lists name (PutStage api stage number variables) = false
forgets_by lists name (PutCanary api stage number share variables) = false
forgets_by lists name (PromoteCanary api stage) = false
forgets_by lists name (PutKey key value enabled) = false
forgets_by lists name (PutPlan plan throttle quota stages) = false
forgets_by lists name (JoinKey plan key) = false
forgets_by lists name (Grant plan key amount) = false
forgets_by lists name (Flush api stage) = is_some (stage_row lists api stage) && is_of api stage name
forgets_by lists name (Usage plan key) = false
forgets_by lists name Shutdown = false

abbrev pub forgets : Lists → PolicyName → Event → Bool
forgets lists name (Enter moment word api stage) = false
forgets lists name (Recall moment other) = false
forgets lists name (Learn moment other policy ttl) = false
forgets lists name (Admit moment api stage value) = false
forgets lists name (Admin moment command) = forgets_by lists name command
forgets lists name (Leave status cause) = false

-- none of these entries, the newest first, forgets the name where they come behind this state
abbrev pub NoneForgets : State → PolicyName → List Entry → Type 0
NoneForgets state name [] = Unit {0}
NoneForgets state name (newest ∷ older) = NoneForgets state name older × (forgets (state_of state older).lists name newest.event ≡ false)

-- THE LAST LESSON of a name in a history: a Learn, told at this moment, behind which come these entries. None of them learns the name,
-- none forgets it, and they learn fewer than 1,024 names.
pub record IsLastLesson (opening : Lists) (before : List Entry) (lesson : Entry) (behind : List Entry) (moment : ℕ) (name : PolicyName) (policy : Policy) (ttl : ℕ) : Type 0 where
  pub learns : lesson.event ≡ Learn moment name policy ttl
  pub last : IsNoneOf name (names_in (reverse behind))
  pub stands : NoneForgets (state_after opening (before ++ lesson ∷ [])) name (reverse behind)
  pub few : length (each_once (names_in (reverse behind))) < 1024

-- it may be used at this moment: it is below that of the lesson and 1,000 times its seconds
abbrev pub IsInItsSeconds : Lists → List Entry → ℕ → ℕ → List Entry → ℕ → Type 0
IsInItsSeconds opening before learned ttl history moment = time_of (state_after opening history) moment < time_of (state_after opening before) learned + 1000 * ttl

-- THE LAST LESSON IS REMEMBERED while it may be used
abbrev pub RemembersTheLastLesson : Type 0
RemembersTheLastLesson =
    (opening : Lists) (before : List Entry) (lesson : Entry) (behind : List Entry) (learned : ℕ) (name : PolicyName) (policy : Policy) (ttl moment : ℕ) (kept : Bool)
    → IsLastLesson opening before lesson behind learned name policy ttl
    → IsInItsSeconds opening before learned ttl (before ++ lesson ∷ behind) moment
    → reply opening (before ++ lesson ∷ behind) (Recall moment name) kept ≡ Remembered policy

-- such a lesson stands in the history, and may be used
pub record HasLesson (opening : Lists) (history : List Entry) (name : PolicyName) (policy : Policy) (moment : ℕ) : Type 0 where
  pub before : List Entry
  pub lesson : Entry
  pub behind : List Entry
  pub learned : ℕ
  pub ttl : ℕ
  pub parts : history ≡ before ++ lesson ∷ behind
  pub is : IsLastLesson opening before lesson behind learned name policy ttl
  pub in_time : IsInItsSeconds opening before learned ttl history moment

-- NOTHING ELSE IS REMEMBERED
abbrev pub RemembersNothingElse : Type 0
RemembersNothingElse =
    (opening : Lists) (history : List Entry) (name : PolicyName) (policy : Policy) (moment : ℕ) (kept : Bool)
    → reply opening history (Recall moment name) kept ≡ Remembered policy → HasLesson opening history name policy moment
