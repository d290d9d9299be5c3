-- After every history over tables that a book starts from, each stage has variables.
use Rattle.std.proofs.Common.{◌≡◌, sym, ap, subst, refl, ℕ, Bool, true, false, not, ◌&&◌, List, [], ◌∷◌, length, reverse, cond, Option, Some, None, IfSome, option_map}
use Rattle.std.specs.Prelude.{is_none, is_some, nat_lt}
use Rattle.std.specs.Str.{bytes_eq}
use Rattle.gw_base.specs.Names.{is_name}
use Rattle.call_facts.specs.declared.vars.Vars.{Vars}
use Rattle.stage_canary.specs.declared.share.TheConstants.{WHOLE_SHARE}
use Rattle.keeper_core.specs.Lists.{Lists, deployment_row, stage_row}
use Rattle.book_rules.proofs.Viewing.{are_taken}
use Rattle.book_rules.specs.Commands.{commanded}
use Rattle.book_rules.specs.Good.{bad_row}
use Rattle.book_rules.specs.History.{state_of}
use Rattle.book_rules.specs.Limits.{most_variables}
use Rattle.book_rules.specs.Machine.{State, opened, row_of, time_of}
use Rattle.book_rules.specs.Names.{are_variables}
use Rattle.book_rules.specs.Outcomes.{Outcome, first_refusal, unless}
use Rattle.book_rules.specs.StageCommands.{put_canary_tests, put_stage_tests}
use Rattle.book_rules.specs.Views.{Staged, command_of, kept_command, merged_of, no_variables, promoted_of, stage_after, stage_by, staged_with, with_canary_of}
use Rattle.book_rules.specs.declared.events.Command.{Command}
use Rattle.book_rules.specs.declared.events.Command.TheVariants.{PutApi, Deploy, PutStage, PutCanary, PromoteCanary, PutKey, PutPlan, JoinKey, Grant, Flush, Usage, Shutdown}
use Rattle.book_rules.specs.declared.events.Entry.{Entry}
use Rattle.book_rules.specs.declared.events.Event.{Event}
use Rattle.book_rules.specs.declared.events.Event.TheVariants.{Enter, Recall, Learn, Admit, Admin, Leave}
use Rattle.book_rules.specs.declared.replies.Refusal.{Refusal}
use Rattle.book_rules.specs.declared.replies.Refusal.TheVariants.{BadName, NoDeployment, NoStage, BadShare, Full}
use Rattle.promoted_stages.specs.Laws.{HasVariables, StagesHaveVariables}
use Rattle.promoted_stages.proofs.Opened.{opens_with}
use Rattle.promoted_stages.proofs.Variables.{column_back, merged_pass, once_pass}

-- WHAT A COMMAND BRINGS: a PutStage and a PutCanary that are kept have variables
abbrev BringsVariables : Option Command → Type 0
BringsVariables (Some (PutStage name title number variables)) = are_variables variables.pairs ≡ true
BringsVariables (Some (PutCanary name title number share variables)) = are_variables variables.pairs ≡ true
BringsVariables command = Unit {0}

either : (b : Bool) (command : Command) → BringsVariables (Some command) → BringsVariables (cond b (Some command) None)
either true command h = h
either false command h = tt

none_either : (b : Bool) → BringsVariables (cond b None None)
none_either true = tt
none_either false = tt

unless_brings : (refusal : Option Refusal) (outcome : Outcome) (command : Command) (kept : Bool) → (refusal ≡ None → BringsVariables (Some command))
    → BringsVariables (cond (is_some (unless refusal outcome).row && kept) (Some command) None)
unless_brings None outcome command kept h = either (is_some outcome.row && kept) command (h refl)
unless_brings (Some refusal) outcome command kept h = tt

-- a PutCanary that is not refused has variables
canary_names : (a b c : Bool) (rest : Option Refusal) → cond (not (a && b && c)) (Some BadName) rest ≡ None → c ≡ true
canary_names true true true rest e = refl
canary_names true true false rest e = absurd cc
canary_names true false c rest e = absurd cc
canary_names false b c rest e = absurd cc

later_tests : Lists → List ℕ → List ℕ → ℕ → ℕ → Vars → Option Refusal
later_tests lists name title number share variables =
    first_refusal
    ((is_none (stage_row lists name title), NoStage)
    ∷ (is_none (deployment_row lists name number), NoDeployment)
    ∷ (nat_lt WHOLE_SHARE share, BadShare)
    ∷ (nat_lt most_variables (length variables.pairs), Full)
    ∷ [])

canary_brings : (lists : Lists) (name title : List ℕ) (number share : ℕ) (variables : Vars) → first_refusal (put_canary_tests lists name title number share variables) ≡ None
    → are_variables variables.pairs ≡ true
unfolding later_tests
canary_brings lists name title number share variables none =
    canary_names (is_name name) (is_name title) (are_variables variables.pairs) (later_tests lists name title number share variables) none

command_brings : (lists : Lists) (t : ℕ) (command : Command) (kept : Bool) → BringsVariables (cond (is_some (commanded lists t command).row && kept) (Some command) None)
command_brings lists t (PutStage name title number variables) kept =
    unless_brings (first_refusal (put_stage_tests lists name title number variables)) _ (PutStage name title number variables) kept (are_taken lists name title number variables)
command_brings lists t (PutCanary name title number share variables) kept =
    unless_brings (first_refusal (put_canary_tests lists name title number share variables)) _ (PutCanary name title number share variables) kept
    (canary_brings lists name title number share variables)
command_brings lists t (PutApi api definition) kept = either (is_some (commanded lists t (PutApi api definition)).row && kept) (PutApi api definition) tt
command_brings lists t (Deploy api) kept = either (is_some (commanded lists t (Deploy api)).row && kept) (Deploy api) tt
command_brings lists t (PromoteCanary api stage) kept = either (is_some (commanded lists t (PromoteCanary api stage)).row && kept) (PromoteCanary api stage) tt
command_brings lists t (PutKey key value enabled) kept = either (is_some (commanded lists t (PutKey key value enabled)).row && kept) (PutKey key value enabled) tt
command_brings lists t (PutPlan plan throttle quota stages) kept =
    either (is_some (commanded lists t (PutPlan plan throttle quota stages)).row && kept) (PutPlan plan throttle quota stages) tt
command_brings lists t (JoinKey plan key) kept = either (is_some (commanded lists t (JoinKey plan key)).row && kept) (JoinKey plan key) tt
command_brings lists t (Grant plan key amount) kept = either (is_some (commanded lists t (Grant plan key amount)).row && kept) (Grant plan key amount) tt
command_brings lists t (Flush api stage) kept = either (is_some (commanded lists t (Flush api stage)).row && kept) (Flush api stage) tt
command_brings lists t (Usage plan key) kept = either (is_some (commanded lists t (Usage plan key)).row && kept) (Usage plan key) tt
command_brings lists t Shutdown kept = tt

event_brings : (s : State) (event : Event) (kept : Bool) → BringsVariables (cond (is_some (row_of s event) && kept) (command_of event) None)
event_brings s (Enter moment word api stage) kept = tt
event_brings s (Recall moment name) kept = tt
event_brings s (Learn moment name policy ttl) kept = tt
event_brings s (Admit moment api stage value) kept = none_either (is_some (row_of s (Admit moment api stage value)) && kept)
event_brings s (Admin moment command) kept = command_brings s.lists (time_of s moment) command kept
event_brings s (Leave status cause) kept = tt

-- WHAT A COMMAND LEAVES: a stage that had variables has them
picked : (b : Bool) (after before : Option Staged) → IfSome after HasVariables → IfSome before HasVariables → IfSome (cond b after before) HasVariables
picked true after before new old = new
picked false after before new old = old

put_has : (number : ℕ) (variables : Vars) (before : Option Staged) → are_variables variables.pairs ≡ true → IfSome before HasVariables
    → HasVariables (staged_with number variables before)
put_has number variables None new old = (once_pass variables.pairs new, refl)
put_has number variables (Some staged) new old = (once_pass variables.pairs new, old.1)

canary_has : (number share : ℕ) (variables : Vars) (before : Option Staged) → are_variables variables.pairs ≡ true → IfSome before HasVariables
    → IfSome (option_map (with_canary_of number share variables) before) HasVariables
canary_has number share variables None new old = tt
canary_has number share variables (Some staged) new old = (old.0, once_pass variables.pairs new)

-- the merged variables are read back
pub merged_back : (staged : Staged) → HasVariables staged
    → promoted_of staged ≡ record { deployment = staged.canary; variables = merged_of staged; canary = 0; share = 0; canary_variables = no_variables }
merged_back staged has =
    ap (λ v. record { deployment = staged.canary; variables = v; canary = 0; share = 0; canary_variables = no_variables })
    (column_back (merged_of staged).pairs (merged_pass staged.variables.pairs staged.canary_variables.pairs has.0 has.1))

promoted_has : (before : Option Staged) → IfSome before HasVariables → IfSome (option_map promoted_of before) HasVariables
promoted_has None old = tt
promoted_has (Some staged) old =
    subst HasVariables (sym (merged_back staged old)) (merged_pass staged.variables.pairs staged.canary_variables.pairs old.0 old.1, refl)

command_has : (command : Option Command) (api stage : List ℕ) (before : Option Staged) → BringsVariables command → IfSome before HasVariables
    → IfSome (stage_after command api stage before) HasVariables
command_has (Some (PutStage name title number variables)) api stage before new old =
    picked (bytes_eq name api && bytes_eq title stage) (Some (staged_with number variables before)) before (put_has number variables before new old) old
command_has (Some (PutCanary name title number share variables)) api stage before new old =
    picked (bytes_eq name api && bytes_eq title stage) (option_map (with_canary_of number share variables) before) before (canary_has number share variables before new old) old
command_has (Some (PromoteCanary name title)) api stage before new old =
    picked (bytes_eq name api && bytes_eq title stage) (option_map promoted_of before) before (promoted_has before old) old
command_has command api stage before new old = old

-- and so of all entries, the newest first
stage_has : (opening : Lists) (entries : List Entry) (api stage : List ℕ) → bad_row opening ≡ None → IfSome (stage_by opening entries api stage) HasVariables
stage_has opening [] api stage good = opens_with opening api stage good
stage_has opening (newest ∷ older) api stage good =
    let before = state_of (opened opening) older in
    command_has (kept_command before newest) api stage (stage_by opening older api stage) (event_brings before newest.event newest.kept) (stage_has opening older api stage good)

pub stages_have : StagesHaveVariables
stages_have opening history api stage good = stage_has opening (reverse history) api stage good
