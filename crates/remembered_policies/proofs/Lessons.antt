-- What entries leave of a lesson.
use Rattle.std.proofs.Common.{◌≡◌, ◌∙◌, ap, subst, sym, refl, ℕ, Bool, true, false, ◌&&◌, List, [], ◌∷◌, ◌++◌, length, cond, Option, Some, None}
use Rattle.std.specs.Prelude.{is_some}
use Rattle.keeper_core.specs.Lists.{stage_row}
use Rattle.keeper_core.specs.declared.rows.StageRow.{StageRow}
use Rattle.policy_core.specs.declared.policy.Policy.{Policy}
use Rattle.policy_memory.specs.Names.{same_name, is_of, same_name-equal}
use Rattle.policy_memory.specs.Remembered.{Happening, Learned, learned, learned_names, flushed, standing}
use Rattle.policy_memory.specs.declared.names.PolicyName.{PolicyName}
use Rattle.book_rules.specs.History.{state_of}
use Rattle.book_rules.specs.Machine.{State, after, flushed_at, happened_behind, happened_by, time_of}
use Rattle.book_rules.specs.declared.events.Command.{Command}
use Rattle.book_rules.specs.declared.events.Command.TheVariants.{PutApi, Deploy, PutStage, PutCanary, PromoteCanary, PutKey, PutPlan, JoinKey, Grant, Flush, Usage, Shutdown}
use Rattle.book_rules.specs.declared.events.Entry.{Entry}
use Rattle.book_rules.specs.declared.events.Event.{Event}
use Rattle.book_rules.specs.declared.events.Event.TheVariants.{Enter, Recall, Learn, Admit, Admin, Leave}
use Rattle.remembered_policies.specs.Laws.{IsNoneOf, NoneForgets, forgets, forgets_by, names_in, names_of}

-- the names that were learned, by events and by entries
flush_names : (row : Option StageRow) (api stage : List ℕ) (happened : List Happening) → learned_names (flushed_at row api stage happened) ≡ learned_names happened
flush_names None api stage happened = refl
flush_names (Some row) api stage happened = refl

command_names : (state : State) (command : Command) → learned_names (happened_by state command) ≡ learned_names state.happened
command_names state (PutApi api definition) = refl
command_names state (Deploy api) = refl
command_names state (PutStage api stage number variables) = refl
command_names state (PutCanary api stage number share variables) = refl
command_names state (PromoteCanary api stage) = refl
command_names state (PutKey key value enabled) = refl
command_names state (PutPlan plan throttle quota stages) = refl
command_names state (JoinKey plan key) = refl
command_names state (Grant plan key amount) = refl
command_names state (Flush api stage) = flush_names (stage_row state.lists api stage) api stage state.happened
command_names state (Usage plan key) = refl
command_names state Shutdown = refl

event_names : (state : State) (event : Event) → learned_names (happened_behind state event) ≡ names_of event ++ learned_names state.happened
event_names state (Enter moment word api stage) = refl
event_names state (Recall moment name) = refl
event_names state (Learn moment name policy ttl) = refl
event_names state (Admit moment api stage value) = refl
event_names state (Admin moment command) = command_names state command
event_names state (Leave status cause) = refl

names_on : (event : Event) (ns ms : List PolicyName) → (names_of event ++ ns) ++ ms ≡ names_of event ++ (ns ++ ms)
names_on (Enter moment word api stage) ns ms = refl
names_on (Recall moment name) ns ms = refl
names_on (Learn moment name policy ttl) ns ms = refl
names_on (Admit moment api stage value) ns ms = refl
names_on (Admin moment command) ns ms = refl
names_on (Leave status cause) ns ms = refl

pub entry_names : (state : State) (entries : List Entry) → learned_names (state_of state entries).happened ≡ names_in entries ++ learned_names state.happened
entry_names state [] = refl
entry_names state (newest ∷ older) =
    event_names (state_of state older) newest.event
    ∙ ap (λ l. names_of newest.event ++ l) (entry_names state older)
    ∙ sym (names_on newest.event (names_in older) (learned_names state.happened))

-- what was learned last under a name, where an event neither learns it nor forgets it
pass : {A : Type 0} (b : Bool) (x y : A) → b ≡ false → cond b x y ≡ y
pass true x y e = absurd cc
pass false x y e = refl

flush_stands : (row : Option StageRow) (api stage : List ℕ) (name : PolicyName) (happened : List Happening) → (is_some row && is_of api stage name) ≡ false
    → standing name (flushed_at row api stage happened) ≡ standing name happened
flush_stands None api stage name happened e = refl
flush_stands (Some row) api stage name happened e = pass (is_of api stage name) None (standing name happened) e

command_stands : (state : State) (command : Command) (name : PolicyName) → forgets_by state.lists name command ≡ false → standing name (happened_by state command) ≡ standing name state.happened
command_stands state (PutApi api definition) name e = refl
command_stands state (Deploy api) name e = refl
command_stands state (PutStage api stage number variables) name e = refl
command_stands state (PutCanary api stage number share variables) name e = refl
command_stands state (PromoteCanary api stage) name e = refl
command_stands state (PutKey key value enabled) name e = refl
command_stands state (PutPlan plan throttle quota stages) name e = refl
command_stands state (JoinKey plan key) name e = refl
command_stands state (Grant plan key amount) name e = refl
command_stands state (Flush api stage) name e = flush_stands (stage_row state.lists api stage) api stage name state.happened e
command_stands state (Usage plan key) name e = refl
command_stands state Shutdown name e = refl

event_stands : (state : State) (event : Event) (name : PolicyName) → IsNoneOf name (names_of event) → forgets state.lists name event ≡ false
    → standing name (happened_behind state event) ≡ standing name state.happened
event_stands state (Enter moment word api stage) name none e = refl
event_stands state (Recall moment other) name none e = refl
event_stands state (Learn moment other policy ttl) name none e =
    pass (same_name name other) (Some (record { policy = policy; ttl = ttl; at = time_of state moment })) (standing name state.happened) none.0
event_stands state (Admit moment api stage value) name none e = refl
event_stands state (Admin moment command) name none e = command_stands state command name e
event_stands state (Leave status cause) name none e = refl

parted : (event : Event) (name : PolicyName) (ns : List PolicyName) → IsNoneOf name (names_of event ++ ns) → IsNoneOf name (names_of event) × IsNoneOf name ns
parted (Enter moment word api stage) name ns none = (tt, none)
parted (Recall moment other) name ns none = (tt, none)
parted (Learn moment other policy ttl) name ns none = ((none.0, tt), none.1)
parted (Admit moment api stage value) name ns none = (tt, none)
parted (Admin moment command) name ns none = (tt, none)
parted (Leave status cause) name ns none = (tt, none)

pub entries_stand : (state : State) (entries : List Entry) (name : PolicyName) → IsNoneOf name (names_in entries) → NoneForgets state name entries
    → standing name (state_of state entries).happened ≡ standing name state.happened
entries_stand state [] name none kept = refl
entries_stand state (newest ∷ older) name none kept =
    let parts = parted newest.event name (names_in older) none in
    event_stands (state_of state older) newest.event name parts.0 kept.1 ∙ entries_stand state older name parts.1 kept.0

-- A lesson among entries, the newest first, which left this of a name: behind it come those that neither learn nor forget the name.
pub record LessonIn (state : State) (entries : List Entry) (name : PolicyName) (what : Learned) : Type 0 where
  pub behind : List Entry
  pub lesson : Entry
  pub before : List Entry
  pub moment : ℕ
  pub parts : entries ≡ behind ++ lesson ∷ before
  pub learns : lesson.event ≡ Learn moment name what.policy what.ttl
  pub at : what.at ≡ time_of (state_of state before) moment
  pub last : IsNoneOf name (names_in behind)
  pub stands : NoneForgets (state_of state (lesson ∷ before)) name behind

joined : (event : Event) (name : PolicyName) (ns : List PolicyName) → IsNoneOf name (names_of event) → IsNoneOf name ns → IsNoneOf name (names_of event ++ ns)
joined (Enter moment word api stage) name ns none more = more
joined (Recall moment other) name ns none more = more
joined (Learn moment other policy ttl) name ns none more = (none.0, more)
joined (Admit moment api stage value) name ns none more = more
joined (Admin moment command) name ns none more = more
joined (Leave status cause) name ns none more = more

pub states_on : (state : State) (newer older : List Entry) → state_of state (newer ++ older) ≡ state_of (state_of state older) newer
states_on state [] older = refl
states_on state (entry ∷ entries) older = ap (λ s. after s entry) (states_on state entries older)

further : (state : State) (newest : Entry) (older : List Entry) (name : PolicyName) (what : Learned)
    → IsNoneOf name (names_of newest.event) → forgets (state_of state older).lists name newest.event ≡ false → LessonIn state older name what → LessonIn state (newest ∷ older) name what
further state newest older name what none kept there = record {
  behind = newest ∷ there.behind;
  lesson = there.lesson;
  before = there.before;
  moment = there.moment;
  parts = ap (λ l. newest ∷ l) there.parts;
  learns = there.learns;
  at = there.at;
  last = joined newest.event name (names_in there.behind) none there.last;
  stands = (there.stands, subst (λ (s : State). forgets s.lists name newest.event ≡ false) (ap (state_of state) there.parts ∙ states_on state there.behind (there.lesson ∷ there.before)) kept);
}

-- what an event leaves of a name was left before it, or is its own
pub data Left (state : State) (event : Event) (name : PolicyName) (what : Learned) : Type 0 where
  own : (moment : ℕ) → event ≡ Learn moment name what.policy what.ttl → what.at ≡ time_of state moment → Left state event name what
  old : IsNoneOf name (names_of event) → forgets state.lists name event ≡ false → standing name state.happened ≡ Some what → Left state event name what

some_same : {A : Type 0} (a b : A) → Some a ≡ Some b → a ≡ b
some_same a b same = cc

learn_left : (state : State) (moment : ℕ) (other name : PolicyName) (policy : Policy) (ttl : ℕ) (what : Learned) (b : Bool) → same_name name other ≡ b
    → cond b (Some (record { policy = policy; ttl = ttl; at = time_of state moment })) (standing name state.happened) ≡ Some what
    → Left state (Learn moment other policy ttl) name what
learn_left state moment other name policy ttl what true same e =
    let made : Learned = record { policy = policy; ttl = ttl; at = time_of state moment } in
    let is : made ≡ what = some_same made what e in
    let named : name ≡ other = same_name-equal name other same in
    own moment
    (ap (λ n. Learn moment n policy ttl) (sym named) ∙ ap (λ (w : Learned). Learn moment name w.policy w.ttl) is)
    (sym (ap (λ (w : Learned). w.at) is))
learn_left state moment other name policy ttl what false same e = old (same, tt) refl e

flush_left : (state : State) (moment : ℕ) (api stage : List ℕ) (name : PolicyName) (what : Learned) (row : Option StageRow) (b : Bool)
    → stage_row state.lists api stage ≡ row → is_of api stage name ≡ b → standing name (flushed_at row api stage state.happened) ≡ Some what
    → Left state (Admin moment (Flush api stage)) name what
flush_left state moment api stage name what None b row_is of_is e = old tt (ap (λ r. is_some r && is_of api stage name) row_is) e
flush_left state moment api stage name what (Some row) true row_is of_is e =
    let none : None ≡ Some what = sym (ap (λ x. cond x None (standing name state.happened)) of_is) ∙ e in absurd cc
flush_left state moment api stage name what (Some row) false row_is of_is e =
    old tt (ap (λ r. is_some r && is_of api stage name) row_is ∙ of_is) (sym (ap (λ x. cond x None (standing name state.happened)) of_is) ∙ e)

command_left : (state : State) (moment : ℕ) (command : Command) (name : PolicyName) (what : Learned) → standing name (happened_by state command) ≡ Some what
    → Left state (Admin moment command) name what
command_left state moment (PutApi api definition) name what e = old tt refl e
command_left state moment (Deploy api) name what e = old tt refl e
command_left state moment (PutStage api stage number variables) name what e = old tt refl e
command_left state moment (PutCanary api stage number share variables) name what e = old tt refl e
command_left state moment (PromoteCanary api stage) name what e = old tt refl e
command_left state moment (PutKey key value enabled) name what e = old tt refl e
command_left state moment (PutPlan plan throttle quota stages) name what e = old tt refl e
command_left state moment (JoinKey plan key) name what e = old tt refl e
command_left state moment (Grant plan key amount) name what e = old tt refl e
command_left state moment (Flush api stage) name what e =
    flush_left state moment api stage name what (stage_row state.lists api stage) (is_of api stage name) refl refl e
command_left state moment (Usage plan key) name what e = old tt refl e
command_left state moment Shutdown name what e = old tt refl e

event_left : (state : State) (event : Event) (name : PolicyName) (what : Learned) → standing name (happened_behind state event) ≡ Some what → Left state event name what
event_left state (Enter moment word api stage) name what e = old tt refl e
event_left state (Recall moment other) name what e = old tt refl e
event_left state (Learn moment other policy ttl) name what e = learn_left state moment other name policy ttl what (same_name name other) refl e
event_left state (Admit moment api stage value) name what e = old tt refl e
event_left state (Admin moment command) name what e = command_left state moment command name what e
event_left state (Leave status cause) name what e = old tt refl e

-- so where something is left of a name, a lesson stands among the entries
pub lesson_in : (state : State) (entries : List Entry) (name : PolicyName) (what : Learned) → standing name state.happened ≡ None → standing name (state_of state entries).happened ≡ Some what
    → LessonIn state entries name what
lesson_in state [] name what none e = let no : None ≡ Some what = sym none ∙ e in absurd cc
lesson_in state (newest ∷ older) name what none e =
    by (event_left (state_of state older) newest.event name what e) (λ before. lesson_in state older name what none before)
  where
    by : Left (state_of state older) newest.event name what → (standing name (state_of state older).happened ≡ Some what → LessonIn state older name what)
        → LessonIn state (newest ∷ older) name what
    by (own moment learns at) there =
        record { behind = []; lesson = newest; before = older; moment = moment; parts = refl; learns = learns; at = at; last = tt; stands = tt }
    by (old none_here kept before) there = further state newest older name what none_here kept (there before)
