-- The view of a stage by the last commands that were kept, whatever the tables are.
use Rattle.std.specs.Prelude.{◌≡◌, ℕ, ◌+◌, ◌==◌, Bool, true, false, not, ◌&&◌, List, [], ◌∷◌, length, reverse, Option, Some, None, is_some, option_map, if◌then◌else◌}
use Rattle.std.specs.Str.{bytes_eq}
use Rattle.api_model.specs.Definition.{Definition}
use Rattle.call_facts.specs.Pairs.{once}
use Rattle.call_facts.specs.declared.vars.Vars.{Vars}
use Rattle.keeper_core.specs.Lists.{Lists, api_row, deployment_row, stage_row}
use Rattle.keeper_core.specs.declared.rows.StageRow.{StageRow}
use Rattle.stage_canary.specs.Canaries.{merged_pairs, takes_canary}
use Rattle.book_rules.specs.StageCommands.{deployed}
use Rattle.book_rules.specs.Stored.{column_of, definition_of, deployed_of, variables_in}
use Rattle.book_rules.specs.Machine.{State, opened, time_of, row_of}
use Rattle.book_rules.specs.History.{state_of, state_after, reply}
use Rattle.book_rules.specs.declared.events.Command.{Command}
use Rattle.book_rules.specs.declared.events.Command.TheVariants.{PutApi, Deploy, PutStage, PutCanary, PromoteCanary}
use Rattle.book_rules.specs.declared.events.Event.{Event}
use Rattle.book_rules.specs.declared.events.Event.TheVariants.{Enter, Recall, Learn, Admit, Admin, Leave}
use Rattle.book_rules.specs.declared.events.Entry.{Entry}
use Rattle.book_rules.specs.declared.replies.Reply.{Reply}
use Rattle.book_rules.specs.declared.replies.Reply.TheVariants.{Entered, NoStage}

-- the deployment to which a stage points, and its variables; and those of its canary with the share, which is of no deployment where there
-- is none
pub record Staged : Type 0 where
  pub deployment : ℕ
  pub variables : Vars
  pub canary : ℕ
  pub share : ℕ
  pub canary_variables : Vars

abbrev pub staged_of : StageRow → Staged
staged_of row =
    record { deployment = row.deployment; variables = variables_in row.vars; canary = row.canary; share = row.share; canary_variables = variables_in row.canary_vars }

abbrev pub command_of : Event → Option Command
command_of (Enter moment word api stage) = None
command_of (Recall moment name) = None
command_of (Learn moment name policy ttl) = None
command_of (Admit moment api stage value) = None
command_of (Admin moment command) = Some command
command_of (Leave status cause) = None

-- the command of an entry that comes after this state, where it was carried out and kept
abbrev pub kept_command : State → Entry → Option Command
kept_command before entry = if is_some (row_of before entry.event) && entry.kept then command_of entry.event else None

-- the definition of an API after a command, where it was this before
abbrev pub definition_after : Option Command → List ℕ → Option Definition → Option Definition
definition_after (Some (PutApi name definition)) api before = if bytes_eq name api then Some definition else before
definition_after command api before = before

-- the definition of an API after some entries, the newest first: that of the last PutApi, else the one that it opened with
abbrev pub definition_by : Lists → List Entry → List ℕ → Option Definition
definition_by opening [] api = option_map definition_of (api_row opening api)
definition_by opening (newest ∷ older) api =
    definition_after (kept_command (state_of (opened opening) older) newest) api (definition_by opening older api)

abbrev pub no_variables : Vars
no_variables = record { pairs = [] }

-- a stage that is put, with each variable once; the canary that it has stays
abbrev pub staged_with : ℕ → Vars → Option Staged → Staged
staged_with number variables None = record { deployment = number; variables = once variables; canary = 0; share = 0; canary_variables = no_variables }
staged_with number variables (Some staged) = record staged { deployment = number; variables = once variables }

-- a stage with this canary
abbrev pub with_canary_of : ℕ → ℕ → Vars → Staged → Staged
with_canary_of number share variables staged = record staged { canary = number; share = share; canary_variables = once variables }

-- the variables of a stage with those of its canary
abbrev pub merged_of : Staged → Vars
merged_of staged = record { pairs = merged_pairs staged.variables.pairs staged.canary_variables.pairs }

-- a stage whose canary was promoted: the merged variables, as their column is read
abbrev pub promoted_of : Staged → Staged
promoted_of staged =
    record { deployment = staged.canary; variables = variables_in (column_of (merged_of staged)); canary = 0; share = 0; canary_variables = no_variables }

-- a stage after a command, where it was this before
abbrev pub stage_after : Option Command → List ℕ → List ℕ → Option Staged → Option Staged
stage_after (Some (PutStage name title number variables)) api stage before =
    if bytes_eq name api && bytes_eq title stage then Some (staged_with number variables before) else before
stage_after (Some (PutCanary name title number share variables)) api stage before =
    if bytes_eq name api && bytes_eq title stage then option_map (with_canary_of number share variables) before else before
stage_after (Some (PromoteCanary name title)) api stage before =
    if bytes_eq name api && bytes_eq title stage then option_map promoted_of before else before
stage_after command api stage before = before

-- the stage after some entries, the newest first: as the last command on it left it, else as it opened
abbrev pub stage_by : Lists → List Entry → List ℕ → List ℕ → Option Staged
stage_by opening [] api stage = option_map staged_of (stage_row opening api stage)
stage_by opening (newest ∷ older) api stage =
    stage_after (kept_command (state_of (opened opening) older) newest) api stage (stage_by opening older api stage)

-- the deployment of a number after a command, where it was this before: a Deploy gives the next number to the definition that stands
abbrev pub deployment_after : Option Command → List ℕ → ℕ → ℕ → Option Definition → Option Definition → Option Definition
deployment_after (Some (Deploy name)) api number count definition before = if bytes_eq name api && (number == count + 1) then definition else before
deployment_after command api number count definition before = before

-- a deployment after some entries, the newest first: the definition that stood at the Deploy that was answered by its number,
-- else the one that it opened with
abbrev pub deployment_by : Lists → List Entry → List ℕ → ℕ → Option Definition
deployment_by opening [] api number = option_map deployed_of (deployment_row opening api number)
deployment_by opening (newest ∷ older) api number =
    deployment_after (kept_command (state_of (opened opening) older) newest) api number
    (deployed (state_of (opened opening) older).lists api) (definition_by opening older api) (deployment_by opening older api number)

-- the view of a stage by this deployment, with these variables
abbrev pub viewed_by : ℕ → ℕ → Bool → ℕ → Vars → Option Definition → Reply
viewed_by place at canary number variables None = NoStage
viewed_by place at canary number variables (Some definition) =
    Entered (record { place = place; at = at; deployment = number; canary = canary; api = definition; variables = variables })

-- a call of this word is taken to the canary
abbrev pub is_taken_by : Staged → ℕ → Bool
is_taken_by staged word = not (staged.canary == 0) && takes_canary staged.share word

abbrev pub entered_by_as : Lists → List Entry → ℕ → ℕ → Bool → List ℕ → Staged → Reply
entered_by_as opening newest_first place at true api staged =
    viewed_by place at true staged.canary (merged_of staged) (deployment_by opening newest_first api staged.canary)
entered_by_as opening newest_first place at false api staged =
    viewed_by place at false staged.deployment staged.variables (deployment_by opening newest_first api staged.deployment)

-- the view of a stage by the last commands
abbrev pub entered_by : Lists → List Entry → ℕ → ℕ → ℕ → List ℕ → Option Staged → Reply
entered_by opening newest_first place at word api None = NoStage
entered_by opening newest_first place at word api (Some staged) = entered_by_as opening newest_first place at (is_taken_by staged word) api staged

-- In every history the reply to Enter is the view by the last commands that were kept.
abbrev pub ViewsAreOfTheLastCommands : Type 0
ViewsAreOfTheLastCommands =
    (opening : Lists) (history : List Entry) (moment word : ℕ) (api stage : List ℕ) (kept : Bool) →
    reply opening history (Enter moment word api stage) kept
    ≡ entered_by opening (reverse history) (length history) (time_of (state_after opening history) moment) word api (stage_by opening (reverse history) api stage)
