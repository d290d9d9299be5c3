-- The view of a stage by the last commands.
use Rattle.std.proofs.Common.{◌≡◌, ℕ, ◌+◌, ◌==◌, Bool, true, false, not, ◌&&◌, ◌||◌, List, [], ◌∷◌, length, reverse, cond, Option, Some, None, is_none, is_some, option_map, find, refl, ap, sym, ◌∙◌, subst, arith}
use Rattle.std.specs.Prelude.{nat_lt, nat_le}
use Rattle.std.specs.Str.{bytes_eq}
use Rattle.std.proofs.lemmas.Slice.Eq.{bytes_eq-Decides}
use Rattle.gw_base.specs.Names.{is_name}
use Rattle.api_model.specs.Definition.{Definition}
use Rattle.call_facts.specs.Pairs.{once}
use Rattle.call_facts.specs.declared.vars.Vars.{Vars}
use Rattle.keeper_core.specs.Lists.{Lists, is_api, is_deployment, is_stage, api_behind, deployment_behind, stage_behind, api_row, deployment_row, stage_row, adjust, insert_before, put_by, put}
use Rattle.keeper_core.specs.declared.rows.Row.{Row}
use Rattle.keeper_core.specs.declared.rows.Row.TheVariants.{Api, Deployment, Stage}
use Rattle.keeper_core.specs.declared.rows.Row.TheVariants as row
use Rattle.keeper_core.specs.declared.rows.ApiRow.{ApiRow}
use Rattle.keeper_core.specs.declared.rows.DeploymentRow.{DeploymentRow}
use Rattle.keeper_core.specs.declared.rows.StageRow.{StageRow}
use Rattle.keeper_core.proofs.Finding.{find_adjusted, find_beside_adjusted, find_inserted, find_beside_inserted}
use Rattle.book_rules.specs.Names.{are_variables}
use Rattle.book_rules.specs.Stored.{definition_of, deployed_of, form_of, column_of, merged_in, variables_in, stored}
use Rattle.book_rules.specs.Admissions.{admitted}
use Rattle.book_rules.specs.Commands.{commanded}
use Rattle.book_rules.specs.Limits.{most_deployments, most_variables, most_stages}
use Rattle.book_rules.specs.Outcomes.{Outcome, says, unless, writes, first_refusal}
use Rattle.book_rules.specs.StageCommands.{put_api_tests, put_stage_tests, put_canary_tests, canary_for, with_canary, promote, promote_tests, promoted, deployed, deployment_by as next_of, api_of, stage_of, next_deployment}
use Rattle.book_rules.specs.Machine.{State, opened, time_of, is_taken, viewed, entered, entered_as, outcome_of, row_of, put_kept}
use Rattle.book_rules.specs.History.{state_of, state_after}
use Rattle.book_rules.specs.Views.{Staged, staged_of, staged_with, with_canary_of, merged_of, promoted_of, no_variables, command_of, kept_command, definition_after, definition_by, stage_after, stage_by, deployment_after, deployment_by, viewed_by, is_taken_by, entered_by_as, entered_by, ViewsAreOfTheLastCommands}
use Rattle.book_rules.specs.declared.events.Command.{Command}
use Rattle.book_rules.specs.declared.events.Command.TheVariants.{PutApi, Deploy, PutStage, PutCanary, PromoteCanary, PutKey, PutPlan, JoinKey, Grant, Flush, Usage, Shutdown}
use Rattle.book_rules.specs.declared.events.Event.{Event}
use Rattle.book_rules.specs.declared.events.Event.TheVariants.{Enter, Recall, Learn, Admit, Admin, Leave}
use Rattle.book_rules.specs.declared.events.Entry.{Entry}
use Rattle.book_rules.specs.declared.replies.Refusal.{Refusal}
use Rattle.book_rules.specs.declared.replies.Refusal.TheVariants.{BadName, NoApi, NoDeployment, NoStage, BadShare, Full}
use Rattle.book_rules.specs.declared.replies.Reply.{Reply}
use Rattle.book_rules.specs.declared.replies.Reply.TheVariants.{Done, Deployed, Refused}
use Rattle.record_fields.specs.Columns.{column_pairs}
use Rattle.stage_canary.specs.declared.share.TheConstants.{WHOLE_SHARE}
use Rattle.book_rules.proofs.Columns.{variables_back}
use Rattle.book_rules.proofs.PlanRows.{IsOfPlans, is_of_plans, commanded_plans, admitted_plans}

-- texts that are told to be equal are
same_text : (a b : List ℕ) → bytes_eq a b ≡ true → a ≡ b
same_text a b e = (bytes_eq-Decides a b).0 e

is_itself : (a : List ℕ) → bytes_eq a a ≡ true
is_itself a = (bytes_eq-Decides a a).1 refl

both : (a b : Bool) → a ≡ true → b ≡ true → (a && b) ≡ true
both true true e f = refl
both true false e f = f
both false b e f = absurd cc

first_of : (a b : Bool) → (a && b) ≡ true → a ≡ true
first_of true b e = refl
first_of false b e = e

second_of : (a b : Bool) → (a && b) ≡ true → b ≡ true
second_of true b e = e
second_of false b e = absurd cc

same_some : {R : Type 0} (a b : R) → Some a ≡ Some b → a ≡ b
same_some a b same = cc

found_step : {R : Type 0} (p : R → Bool) (y row : R) (rest : Option R) (b : Bool) → p y ≡ b → (rest ≡ Some row → p row ≡ true) → cond b (Some y) rest ≡ Some row → p row ≡ true
found_step p y row rest true here more e = subst (λ r. p r ≡ true) (same_some y row e) here
found_step p y row rest false here more e = more e

-- a row that is found passes
pub found_holds : {R : Type 0} (p : R → Bool) (rows : List R) (row : R) → find p rows ≡ Some row → p row ≡ true
found_holds p [] row e = absurd cc
found_holds p (y ∷ ys) row e = found_step p y row (find p ys) (p y) refl (found_holds p ys row) e

-- What is found under the key of the row that was put, and under another.
module _ {R : Type 0} (is_it is_behind : R → Bool) (row : R) (rows : List R) where
  found_put : is_it row ≡ true → (found : Option R) → find is_it rows ≡ found
      → find is_it (cond (is_none found) (insert_before is_behind row rows) (adjust is_it (λ old. row) rows)) ≡ Some row
  found_put here None e = find_inserted is_it is_behind row here rows e
  found_put here (Some old) e = find_adjusted is_it (λ old. row) (λ y h. here) rows ∙ ap (option_map (λ old. row)) e

  beside_put : (other : R → Bool) → other row ≡ false → ((y : R) → is_it y ≡ true → other y ≡ false) → (found : Option R)
      → find other (cond (is_none found) (insert_before is_behind row rows) (adjust is_it (λ old. row) rows)) ≡ find other rows
  beside_put other differ apart None = find_beside_inserted other is_behind row differ rows
  beside_put other differ apart (Some old) = find_beside_adjusted is_it other (λ old. row) (λ y h. differ) apart rows

-- a row of one name is no row of another
other_api : (row : ApiRow) (name api : List ℕ) → bytes_eq name api ≡ false → is_api name row ≡ true → is_api api row ≡ false
other_api row name api differ h = ap (λ a. bytes_eq a api) (same_text row.api name h) ∙ differ

api_put : (rows : List ApiRow) (row : ApiRow) (api : List ℕ) (b : Bool) → bytes_eq row.api api ≡ b
    → find (is_api api) (put_by (is_api row.api) (api_behind row.api) row rows) ≡ cond b (Some row) (find (is_api api) rows)
api_put rows row api true e =
    subst (λ a. find (is_api a) (put_by (is_api row.api) (api_behind row.api) row rows) ≡ Some row) (same_text row.api api e)
    (found_put (is_api row.api) (api_behind row.api) row rows (is_itself row.api) (find (is_api row.api) rows) refl)
api_put rows row api false e =
    beside_put (is_api row.api) (api_behind row.api) row rows (is_api api) e (λ y h. other_api y row.api api e h) (find (is_api row.api) rows)

-- the form and the source of a definition are its columns
form_back : (definition : Definition) → definition_of (api_of [] definition) ≡ definition
form_back definition = form_either definition.is_text definition.source
  where
    form_either : (is_text : Bool) (source : List ℕ) → stored (cond is_text 1 0) source ≡ record { is_text = is_text; source = source }
    form_either true source = refl
    form_either false source = refl

mapped : {X Y : Type 0} (f : X → Y) (b : Bool) (x : X) (before : Option X) → option_map f (cond b (Some x) before) ≡ cond b (Some (f x)) (option_map f before)
mapped f true x before = refl
mapped f false x before = refl

definition_put : (rows : List ApiRow) (name api : List ℕ) (definition : Definition)
    → option_map definition_of (find (is_api api) (put_by (is_api name) (api_behind name) (api_of name definition) rows))
    ≡ cond (bytes_eq name api) (Some definition) (option_map definition_of (find (is_api api) rows))
definition_put rows name api definition =
    ap (option_map definition_of) (api_put rows (api_of name definition) api (bytes_eq name api) refl)
    ∙ mapped definition_of (bytes_eq name api) (api_of name definition) (find (is_api api) rows)
    ∙ ap (λ d. cond (bytes_eq name api) (Some d) (option_map definition_of (find (is_api api) rows))) (form_back definition)

-- a deployment of one API or number is none of another
other_deployment : (row : DeploymentRow) (name api : List ℕ) (n number : ℕ) → (bytes_eq name api && (n == number)) ≡ false → is_deployment name n row ≡ true → is_deployment api number row ≡ false
other_deployment row name api n number differ h =
    ap (λ a. bytes_eq a api && (row.number == number)) (same_text row.api name (first_of (bytes_eq row.api name) (row.number == n) h))
    ∙ ap (λ k. bytes_eq name api && (k == number)) (same_number row.number n (second_of (bytes_eq row.api name) (row.number == n) h))
    ∙ differ
  where
    same_number : (a b : ℕ) → (a == b) ≡ true → a ≡ b
    same_number a b e = grind arith

deployment_put : (rows : List DeploymentRow) (row : DeploymentRow) (api : List ℕ) (number : ℕ) (b : Bool) → (bytes_eq row.api api && (row.number == number)) ≡ b
    → find (is_deployment api number) (put_by (is_deployment row.api row.number) (deployment_behind row.api row.number) row rows) ≡ cond b (Some row) (find (is_deployment api number) rows)
deployment_put rows row api number true e =
    let named : row.api ≡ api = same_text row.api api (first_of (bytes_eq row.api api) (row.number == number) e) in
    let numbered : row.number ≡ number = same_number row.number number (second_of (bytes_eq row.api api) (row.number == number) e) in
    subst (λ a. find (is_deployment a number) (put_by (is_deployment row.api row.number) (deployment_behind row.api row.number) row rows) ≡ Some row) named
    (subst (λ k. find (is_deployment row.api k) (put_by (is_deployment row.api row.number) (deployment_behind row.api row.number) row rows) ≡ Some row) numbered
    (found_put (is_deployment row.api row.number) (deployment_behind row.api row.number) row rows
    (both (bytes_eq row.api row.api) (row.number == row.number) (is_itself row.api) (same_itself row.number)) (find (is_deployment row.api row.number) rows) refl))
  where
    same_number : (a b : ℕ) → (a == b) ≡ true → a ≡ b
    same_number a b e = grind arith

    same_itself : (a : ℕ) → (a == a) ≡ true
    same_itself a = grind arith
deployment_put rows row api number false e =
    beside_put (is_deployment row.api row.number) (deployment_behind row.api row.number) row rows (is_deployment api number) e
    (λ y h. other_deployment y row.api api row.number number e h) (find (is_deployment row.api row.number) rows)

-- a row of one stage is no row of another
other_stage : (row : StageRow) (name title api stage : List ℕ) → (bytes_eq name api && bytes_eq title stage) ≡ false → is_stage name title row ≡ true → is_stage api stage row ≡ false
other_stage row name title api stage differ h =
    ap (λ a. bytes_eq a api && bytes_eq row.stage stage) (same_text row.api name (first_of (bytes_eq row.api name) (bytes_eq row.stage title) h))
    ∙ ap (λ s. bytes_eq name api && bytes_eq s stage) (same_text row.stage title (second_of (bytes_eq row.api name) (bytes_eq row.stage title) h))
    ∙ differ

stage_put : (rows : List StageRow) (row : StageRow) (api stage : List ℕ) (b : Bool) → (bytes_eq row.api api && bytes_eq row.stage stage) ≡ b
    → find (is_stage api stage) (put_by (is_stage row.api row.stage) (stage_behind row.api row.stage) row rows) ≡ cond b (Some row) (find (is_stage api stage) rows)
stage_put rows row api stage true e =
    let named : row.api ≡ api = same_text row.api api (first_of (bytes_eq row.api api) (bytes_eq row.stage stage) e) in
    let titled : row.stage ≡ stage = same_text row.stage stage (second_of (bytes_eq row.api api) (bytes_eq row.stage stage) e) in
    subst (λ a. find (is_stage a stage) (put_by (is_stage row.api row.stage) (stage_behind row.api row.stage) row rows) ≡ Some row) named
    (subst (λ s. find (is_stage row.api s) (put_by (is_stage row.api row.stage) (stage_behind row.api row.stage) row rows) ≡ Some row) titled
    (found_put (is_stage row.api row.stage) (stage_behind row.api row.stage) row rows
    (both (bytes_eq row.api row.api) (bytes_eq row.stage row.stage) (is_itself row.api) (is_itself row.stage)) (find (is_stage row.api row.stage) rows) refl))
stage_put rows row api stage false e =
    beside_put (is_stage row.api row.stage) (stage_behind row.api row.stage) row rows (is_stage api stage) e
    (λ y h. other_stage y row.api row.stage api stage e h) (find (is_stage row.api row.stage) rows)

-- a row that is found under a key has it
pub found_named : (rows : List StageRow) (api stage : List ℕ) (row : StageRow) → find (is_stage api stage) rows ≡ Some row → row.api ≡ api
found_named rows api stage row e = same_text row.api api (first_of (bytes_eq row.api api) (bytes_eq row.stage stage) (found_holds (is_stage api stage) rows row e))

found_titled : (rows : List StageRow) (api stage : List ℕ) (row : StageRow) → find (is_stage api stage) rows ≡ Some row → row.stage ≡ stage
found_titled rows api stage row e = same_text row.stage stage (second_of (bytes_eq row.api api) (bytes_eq row.stage stage) (found_holds (is_stage api stage) rows row e))

-- What a command leaves, whatever its tests say and whether or not it is kept.
abbrev left : Option Row → Bool → Lists → Lists
left = put_kept

-- an empty column is of no variables
none_back : variables_in [] ≡ no_variables
unfolding variables_in column_pairs
none_back = refl

-- a stage keeps each variable once, and its canary
staged_back : (found : Option StageRow) (name title : List ℕ) (number : ℕ) (variables : Vars) → are_variables variables.pairs ≡ true
    → staged_of (stage_of found name title number (column_of (once variables))) ≡ staged_with number variables (option_map staged_of found)
staged_back None name title number variables h =
    ap (λ v. record { deployment = number; variables = v; canary = 0; share = 0; canary_variables = variables_in [] }) (variables_back variables h)
    ∙ ap (λ v. record { deployment = number; variables = once variables; canary = 0; share = 0; canary_variables = v }) none_back
staged_back (Some row) name title number variables h =
    ap (λ v. record { deployment = number; variables = v; canary = row.canary; share = row.share; canary_variables = variables_in row.canary_vars }) (variables_back variables h)

named_as : (found : Option StageRow) (name title : List ℕ) (number : ℕ) (vars : List ℕ) → (stage_of found name title number vars).api ≡ name
named_as None name title number vars = refl
named_as (Some row) name title number vars = refl

titled_as : (found : Option StageRow) (name title : List ℕ) (number : ℕ) (vars : List ℕ) → (stage_of found name title number vars).stage ≡ title
titled_as None name title number vars = refl
titled_as (Some row) name title number vars = refl

-- a stage with a canary, and one whose canary was promoted
canary_back : (row : StageRow) (number share : ℕ) (variables : Vars) → are_variables variables.pairs ≡ true
    → staged_of (with_canary number share (column_of (once variables)) row) ≡ with_canary_of number share variables (staged_of row)
canary_back row number share variables h =
    ap (λ v. record { deployment = row.deployment; variables = variables_in row.vars; canary = number; share = share; canary_variables = v }) (variables_back variables h)

promoted_back : (row : StageRow) → staged_of (promoted row) ≡ promoted_of (staged_of row)
promoted_back row =
    ap (λ v. record { deployment = row.canary; variables = variables_in (column_of (merged_in row)); canary = 0; share = 0; canary_variables = v }) none_back

-- a stage after a row was put that the command on it wrote
module _ (rows : List StageRow) (row : StageRow) (name title : List ℕ) (after : Option Staged → Option Staged) (named : row.api ≡ name) (titled : row.stage ≡ title)
    (is : Some (staged_of row) ≡ after (option_map staged_of (find (is_stage name title) rows))) where
  staged_put : (api stage : List ℕ)
      → option_map staged_of (find (is_stage api stage) (put_by (is_stage row.api row.stage) (stage_behind row.api row.stage) row rows))
      ≡ cond (bytes_eq name api && bytes_eq title stage) (after (option_map staged_of (find (is_stage api stage) rows))) (option_map staged_of (find (is_stage api stage) rows))
  staged_put api stage =
      ap (option_map staged_of) (stage_put rows row api stage (bytes_eq row.api api && bytes_eq row.stage stage) refl)
      ∙ mapped staged_of (bytes_eq row.api api && bytes_eq row.stage stage) row (find (is_stage api stage) rows)
      ∙ ap (λ a. cond (bytes_eq a api && bytes_eq row.stage stage) (Some (staged_of row)) (option_map staged_of (find (is_stage api stage) rows))) named
      ∙ ap (λ s. cond (bytes_eq name api && bytes_eq s stage) (Some (staged_of row)) (option_map staged_of (find (is_stage api stage) rows))) titled
      ∙ by_same (bytes_eq name api && bytes_eq title stage) refl
    where
      by_same : (b : Bool) → (bytes_eq name api && bytes_eq title stage) ≡ b
          → cond b (Some (staged_of row)) (option_map staged_of (find (is_stage api stage) rows))
          ≡ cond b (after (option_map staged_of (find (is_stage api stage) rows))) (option_map staged_of (find (is_stage api stage) rows))
      by_same false e = refl
      by_same true e =
          is
          ∙ ap (λ a. after (option_map staged_of (find (is_stage a title) rows))) (same_text name api (first_of (bytes_eq name api) (bytes_eq title stage) e))
          ∙ ap (λ s. after (option_map staged_of (find (is_stage api s) rows))) (same_text title stage (second_of (bytes_eq name api) (bytes_eq title stage) e))

-- variables of a PutStage that is not refused are variables
taken_variables : (a b c : Bool) (rest : Option Refusal) (name : Refusal) → cond (not (a && b && c)) (Some name) rest ≡ None → c ≡ true
taken_variables true true true rest name e = refl
taken_variables true true false rest name e = absurd cc
taken_variables true false c rest name e = absurd cc
taken_variables false b c rest name e = absurd cc

-- What is known of the tables, of an entry that wrote this row for this command, and of one that wrote none.
module _ {X : Type 0} (of : Lists → X) (after : Option Command → X → X) (stays : (x : X) → after None x ≡ x) where
  by_row : (lists : Lists) (command : Command) (row : Row) (kept : Bool) → of (put row lists) ≡ after (Some command) (of lists)
      → of (put_kept (Some row) kept lists) ≡ after (cond (is_some (Some row) && kept) (Some command) None) (of lists)
  by_row lists command row true e = e
  by_row lists command row false e = sym (stays (of lists))

  by_unless : (lists : Lists) (command : Command) (outcome : Outcome) (kept : Bool) (r : Option Refusal)
      → (r ≡ None → of (put_kept outcome.row kept lists) ≡ after (cond (is_some outcome.row && kept) (Some command) None) (of lists))
      → of (put_kept (unless r outcome).row kept lists) ≡ after (cond (is_some (unless r outcome).row && kept) (Some command) None) (of lists)
  by_unless lists command outcome kept None e = e refl
  by_unless lists command outcome kept (Some refusal) e = sym (stays (of lists))

  -- rows of keys, plans and joins leave it as it is, and so does the command
  by_neutral : (lists : Lists) (command : Option Command) (row : Option Row) (kept : Bool) → ((r : Row) → row ≡ Some r → of (put r lists) ≡ of lists) → ((x : X) → after command x ≡ x)
      → of (put_kept row kept lists) ≡ after (cond (is_some row && kept) command None) (of lists)
  by_neutral lists command None kept same left = sym (stays (of lists))
  by_neutral lists command (Some row) true same left = same row refl ∙ sym (left (of lists))
  by_neutral lists command (Some row) false same left = sym (stays (of lists))

  by_refusal : (lists : Lists) (command : Command) (row : Row) (answer : Reply) (kept : Bool) (r : Option Refusal)
      → (r ≡ None → of (put row lists) ≡ after (Some command) (of lists))
      → of (put_kept (unless r (writes row answer)).row kept lists) ≡ after (cond (is_some (unless r (writes row answer)).row && kept) (Some command) None) (of lists)
  by_refusal lists command row answer kept None e = by_row lists command row kept (e refl)
  by_refusal lists command row answer kept (Some refusal) e = sym (stays (of lists))

  by_deploy : (lists : Lists) (name : List ℕ) (kept : Bool) (found : Option ApiRow) (count : ℕ)
      → ((row : ApiRow) → found ≡ Some row → of (put (Deployment (next_deployment row count)) lists) ≡ after (Some (Deploy name)) (of lists))
      → of (put_kept (next_of found count).row kept lists) ≡ after (cond (is_some (next_of found count).row && kept) (Some (Deploy name)) None) (of lists)
  by_deploy lists name kept None count e = sym (stays (of lists))
  by_deploy lists name kept (Some row) count e = by_room (nat_le most_deployments count)
    where
      by_room : (full : Bool)
          → of (put_kept (cond full (says (Refused Full)) (writes (Deployment (next_deployment row count)) (Deployed (count + 1)))).row kept lists)
          ≡ after (cond (is_some (cond full (says (Refused Full)) (writes (Deployment (next_deployment row count)) (Deployed (count + 1)))).row && kept) (Some (Deploy name)) None) (of lists)
      by_room true = sym (stays (of lists))
      by_room false = by_row lists (Deploy name) (Deployment (next_deployment row count)) kept (e row refl)

later_tests : Lists → List ℕ → List ℕ → ℕ → Vars → Option Refusal
later_tests lists name title number variables =
    first_refusal
    ((is_none (api_row lists name), NoApi)
    ∷ (is_none (deployment_row lists name number), NoDeployment)
    ∷ (nat_lt most_variables (length variables.pairs) || is_none (stage_row lists name title) && nat_le most_stages (length lists.stages), Full)
    ∷ [])

-- a PutStage that is not refused has variables
pub are_taken : (lists : Lists) (name title : List ℕ) (number : ℕ) (variables : Vars) → first_refusal (put_stage_tests lists name title number variables) ≡ None → are_variables variables.pairs ≡ true
unfolding later_tests
are_taken lists name title number variables none =
    taken_variables (is_name name) (is_name title) (are_variables variables.pairs) (later_tests lists name title number variables) BadName none

later_canary_tests : Lists → List ℕ → List ℕ → ℕ → ℕ → Vars → Option Refusal
later_canary_tests lists name title number share variables =
    first_refusal
    ((is_none (stage_row lists name title), NoStage)
    ∷ (is_none (deployment_row lists name number), NoDeployment)
    ∷ (nat_lt WHOLE_SHARE share, BadShare)
    ∷ (nat_lt most_variables (length variables.pairs), Full)
    ∷ [])

-- a PutCanary that is not refused has variables
are_taken_too : (lists : Lists) (name title : List ℕ) (number share : ℕ) (variables : Vars) → first_refusal (put_canary_tests lists name title number share variables) ≡ None
    → are_variables variables.pairs ≡ true
unfolding later_canary_tests
are_taken_too lists name title number share variables none =
    taken_variables (is_name name) (is_name title) (are_variables variables.pairs) (later_canary_tests lists name title number share variables) BadName none

-- what is known of the tables that is not of keys, plans and joins
module _ {X : Type 0} (of : Lists → X) (same : (row : Row) (lists : Lists) → is_of_plans row ≡ true → of (put row lists) ≡ of lists) where
  beside_plans : (lists : Lists) (row : Option Row) → IsOfPlans row → (r : Row) → row ≡ Some r → of (put r lists) ≡ of lists
  beside_plans lists None h r e = absurd cc
  beside_plans lists (Some row) h r e = same r lists (subst (λ x. is_of_plans x ≡ true) (same_some row r e) h)

definitions_beside : (api : List ℕ) (row : Row) (lists : Lists) → is_of_plans row ≡ true
    → option_map definition_of (api_row (put row lists) api) ≡ option_map definition_of (api_row lists api)
definitions_beside api (row.Meta row) lists h = refl
definitions_beside api (Api row) lists h = absurd cc
definitions_beside api (Deployment row) lists h = refl
definitions_beside api (Stage row) lists h = refl
definitions_beside api (row.Key row) lists h = refl
definitions_beside api (row.Plan row) lists h = refl
definitions_beside api (row.Join row) lists h = refl

stages_beside : (api stage : List ℕ) (row : Row) (lists : Lists) → is_of_plans row ≡ true
    → option_map staged_of (stage_row (put row lists) api stage) ≡ option_map staged_of (stage_row lists api stage)
stages_beside api stage (row.Meta row) lists h = refl
stages_beside api stage (Api row) lists h = refl
stages_beside api stage (Deployment row) lists h = refl
stages_beside api stage (Stage row) lists h = absurd cc
stages_beside api stage (row.Key row) lists h = refl
stages_beside api stage (row.Plan row) lists h = refl
stages_beside api stage (row.Join row) lists h = refl

deployments_beside : (api : List ℕ) (number : ℕ) (row : Row) (lists : Lists) → is_of_plans row ≡ true
    → option_map deployed_of (deployment_row (put row lists) api number) ≡ option_map deployed_of (deployment_row lists api number)
deployments_beside api number (row.Meta row) lists h = refl
deployments_beside api number (Api row) lists h = refl
deployments_beside api number (Deployment row) lists h = absurd cc
deployments_beside api number (Stage row) lists h = refl
deployments_beside api number (row.Key row) lists h = refl
deployments_beside api number (row.Plan row) lists h = refl
deployments_beside api number (row.Join row) lists h = refl

-- a canary that is put, and one that is promoted, leave what is no stage's
module _ {X : Type 0} (of : Lists → X) (after : Option Command → X → X) (stays : (x : X) → after None x ≡ x) (same : (row : StageRow) (lists : Lists) → of (put (Stage row) lists) ≡ of lists) where
  by_canary : (lists : Lists) (command : Command) (left : (x : X) → after (Some command) x ≡ x) (found : Option StageRow) (number share : ℕ) (vars : List ℕ) (kept : Bool)
      → of (put_kept (canary_for found number share vars).row kept lists) ≡ after (cond (is_some (canary_for found number share vars).row && kept) (Some command) None) (of lists)
  by_canary lists command left None number share vars kept = sym (stays (of lists))
  by_canary lists command left (Some row) number share vars kept =
      by_row of after stays lists command (Stage (with_canary number share vars row)) kept (same (with_canary number share vars row) lists ∙ sym (left (of lists)))

  by_promotion : (lists : Lists) (command : Command) (left : (x : X) → after (Some command) x ≡ x) (found : Option StageRow) (kept : Bool)
      → of (put_kept (promote found).row kept lists) ≡ after (cond (is_some (promote found).row && kept) (Some command) None) (of lists)
  by_promotion lists command left None kept = sym (stays (of lists))
  by_promotion lists command left (Some row) kept =
      by_refusal of after stays lists command (Stage (promoted row)) Done kept (first_refusal (promote_tests row)) (λ none. same (promoted row) lists ∙ sym (left (of lists)))

-- The same of a command, for each of the three that a view has.
definition_command : (lists : Lists) (t : ℕ) (command : Command) (kept : Bool) (api : List ℕ)
    → option_map definition_of (api_row (put_kept (commanded lists t command).row kept lists) api)
    ≡ definition_after (cond (is_some (commanded lists t command).row && kept) (Some command) None) api (option_map definition_of (api_row lists api))
definition_command lists t (PutApi name definition) kept api =
    by_refusal (λ l. option_map definition_of (api_row l api)) (λ c. definition_after c api) (λ x. refl) lists (PutApi name definition) (Api (api_of name definition)) Done kept
    (first_refusal (put_api_tests lists name)) (λ none. definition_put lists.apis name api definition)
definition_command lists t (Deploy name) kept api =
    by_deploy (λ l. option_map definition_of (api_row l api)) (λ c. definition_after c api) (λ x. refl) lists name kept (api_row lists name) (deployed lists name) (λ row e. refl)
definition_command lists t (PutStage name title number variables) kept api =
    by_refusal (λ l. option_map definition_of (api_row l api)) (λ c. definition_after c api) (λ x. refl) lists (PutStage name title number variables)
    (Stage (stage_of (stage_row lists name title) name title number (column_of (once variables)))) Done kept
    (first_refusal (put_stage_tests lists name title number variables)) (λ none. refl)
definition_command lists t (PutCanary name title number share variables) kept api =
    by_unless (λ l. option_map definition_of (api_row l api)) (λ c. definition_after c api) (λ x. refl) lists (PutCanary name title number share variables)
    (canary_for (stage_row lists name title) number share (column_of (once variables))) kept (first_refusal (put_canary_tests lists name title number share variables))
    (λ none. by_canary (λ l. option_map definition_of (api_row l api)) (λ c. definition_after c api) (λ x. refl) (λ row l. refl) lists (PutCanary name title number share variables) (λ x. refl)
    (stage_row lists name title) number share (column_of (once variables)) kept)
definition_command lists t (PromoteCanary name title) kept api =
    by_promotion (λ l. option_map definition_of (api_row l api)) (λ c. definition_after c api) (λ x. refl) (λ row l. refl) lists (PromoteCanary name title) (λ x. refl) (stage_row lists name title) kept
definition_command lists t (PutKey key value enabled) kept api =
    by_neutral (λ l. option_map definition_of (api_row l api)) (λ c. definition_after c api) (λ x. refl) lists (Some (PutKey key value enabled)) (commanded lists t (PutKey key value enabled)).row kept
    (beside_plans (λ l. option_map definition_of (api_row l api)) (definitions_beside api) lists (commanded lists t (PutKey key value enabled)).row (commanded_plans lists t (PutKey key value enabled) refl)) (λ x. refl)
definition_command lists t (PutPlan plan throttle quota stages) kept api =
    by_neutral (λ l. option_map definition_of (api_row l api)) (λ c. definition_after c api) (λ x. refl) lists (Some (PutPlan plan throttle quota stages)) (commanded lists t (PutPlan plan throttle quota stages)).row kept
    (beside_plans (λ l. option_map definition_of (api_row l api)) (definitions_beside api) lists (commanded lists t (PutPlan plan throttle quota stages)).row (commanded_plans lists t (PutPlan plan throttle quota stages) refl)) (λ x. refl)
definition_command lists t (JoinKey plan key) kept api =
    by_neutral (λ l. option_map definition_of (api_row l api)) (λ c. definition_after c api) (λ x. refl) lists (Some (JoinKey plan key)) (commanded lists t (JoinKey plan key)).row kept
    (beside_plans (λ l. option_map definition_of (api_row l api)) (definitions_beside api) lists (commanded lists t (JoinKey plan key)).row (commanded_plans lists t (JoinKey plan key) refl)) (λ x. refl)
definition_command lists t (Grant plan key amount) kept api =
    by_neutral (λ l. option_map definition_of (api_row l api)) (λ c. definition_after c api) (λ x. refl) lists (Some (Grant plan key amount)) (commanded lists t (Grant plan key amount)).row kept
    (beside_plans (λ l. option_map definition_of (api_row l api)) (definitions_beside api) lists (commanded lists t (Grant plan key amount)).row (commanded_plans lists t (Grant plan key amount) refl)) (λ x. refl)
definition_command lists t (Flush at name) kept api =
    by_neutral (λ l. option_map definition_of (api_row l api)) (λ c. definition_after c api) (λ x. refl) lists (Some (Flush at name)) (commanded lists t (Flush at name)).row kept
    (beside_plans (λ l. option_map definition_of (api_row l api)) (definitions_beside api) lists (commanded lists t (Flush at name)).row (commanded_plans lists t (Flush at name) refl)) (λ x. refl)
definition_command lists t (Usage plan key) kept api =
    by_neutral (λ l. option_map definition_of (api_row l api)) (λ c. definition_after c api) (λ x. refl) lists (Some (Usage plan key)) (commanded lists t (Usage plan key)).row kept
    (beside_plans (λ l. option_map definition_of (api_row l api)) (definitions_beside api) lists (commanded lists t (Usage plan key)).row (commanded_plans lists t (Usage plan key) refl)) (λ x. refl)
definition_command lists t Shutdown kept api = refl

stage_command : (lists : Lists) (t : ℕ) (command : Command) (kept : Bool) (api stage : List ℕ)
    → option_map staged_of (stage_row (put_kept (commanded lists t command).row kept lists) api stage)
    ≡ stage_after (cond (is_some (commanded lists t command).row && kept) (Some command) None) api stage (option_map staged_of (stage_row lists api stage))
stage_command lists t (PutApi name definition) kept api stage =
    by_refusal (λ l. option_map staged_of (stage_row l api stage)) (λ c. stage_after c api stage) (λ x. refl) lists (PutApi name definition) (Api (api_of name definition)) Done kept
    (first_refusal (put_api_tests lists name)) (λ none. refl)
stage_command lists t (Deploy name) kept api stage =
    by_deploy (λ l. option_map staged_of (stage_row l api stage)) (λ c. stage_after c api stage) (λ x. refl) lists name kept (api_row lists name) (deployed lists name) (λ row e. refl)
stage_command lists t (PutStage name title number variables) kept api stage =
    by_refusal (λ l. option_map staged_of (stage_row l api stage)) (λ c. stage_after c api stage) (λ x. refl) lists (PutStage name title number variables)
    (Stage (stage_of (stage_row lists name title) name title number (column_of (once variables)))) Done kept
    (first_refusal (put_stage_tests lists name title number variables))
    (λ none. staged_put lists.stages (stage_of (stage_row lists name title) name title number (column_of (once variables))) name title (λ before. Some (staged_with number variables before))
    (named_as (stage_row lists name title) name title number (column_of (once variables))) (titled_as (stage_row lists name title) name title number (column_of (once variables)))
    (ap Some (staged_back (stage_row lists name title) name title number variables (are_taken lists name title number variables none))) api stage)
stage_command lists t (PutCanary name title number share variables) kept api stage =
    by_unless (λ l. option_map staged_of (stage_row l api stage)) (λ c. stage_after c api stage) (λ x. refl) lists (PutCanary name title number share variables)
    (canary_for (stage_row lists name title) number share (column_of (once variables))) kept (first_refusal (put_canary_tests lists name title number share variables))
    (λ none. by_found (are_taken_too lists name title number share variables none) (stage_row lists name title) refl)
  where
    by_found : are_variables variables.pairs ≡ true → (found : Option StageRow) → stage_row lists name title ≡ found
        → option_map staged_of (stage_row (put_kept (canary_for found number share (column_of (once variables))).row kept lists) api stage)
        ≡ stage_after (cond (is_some (canary_for found number share (column_of (once variables))).row && kept) (Some (PutCanary name title number share variables)) None) api stage
        (option_map staged_of (stage_row lists api stage))
    by_found taken None e = refl
    by_found taken (Some row) e =
        by_row (λ l. option_map staged_of (stage_row l api stage)) (λ c. stage_after c api stage) (λ x. refl) lists (PutCanary name title number share variables)
        (Stage (with_canary number share (column_of (once variables)) row)) kept
        (staged_put lists.stages (with_canary number share (column_of (once variables)) row) name title (option_map (with_canary_of number share variables))
        (found_named lists.stages name title row e) (found_titled lists.stages name title row e)
        (ap Some (canary_back row number share variables taken) ∙ ap (λ f. option_map (with_canary_of number share variables) (option_map staged_of f)) (sym e)) api stage)
stage_command lists t (PromoteCanary name title) kept api stage = by_found (stage_row lists name title) refl
  where
    by_found : (found : Option StageRow) → stage_row lists name title ≡ found
        → option_map staged_of (stage_row (put_kept (promote found).row kept lists) api stage)
        ≡ stage_after (cond (is_some (promote found).row && kept) (Some (PromoteCanary name title)) None) api stage (option_map staged_of (stage_row lists api stage))
    by_found None e = refl
    by_found (Some row) e =
        by_refusal (λ l. option_map staged_of (stage_row l api stage)) (λ c. stage_after c api stage) (λ x. refl) lists (PromoteCanary name title) (Stage (promoted row)) Done kept
        (first_refusal (promote_tests row))
        (λ none. staged_put lists.stages (promoted row) name title (option_map promoted_of) (found_named lists.stages name title row e) (found_titled lists.stages name title row e)
        (ap Some (promoted_back row) ∙ ap (λ f. option_map promoted_of (option_map staged_of f)) (sym e)) api stage)
stage_command lists t (PutKey key value enabled) kept api stage =
    by_neutral (λ l. option_map staged_of (stage_row l api stage)) (λ c. stage_after c api stage) (λ x. refl) lists (Some (PutKey key value enabled)) (commanded lists t (PutKey key value enabled)).row kept
    (beside_plans (λ l. option_map staged_of (stage_row l api stage)) (stages_beside api stage) lists (commanded lists t (PutKey key value enabled)).row (commanded_plans lists t (PutKey key value enabled) refl)) (λ x. refl)
stage_command lists t (PutPlan plan throttle quota stages) kept api stage =
    by_neutral (λ l. option_map staged_of (stage_row l api stage)) (λ c. stage_after c api stage) (λ x. refl) lists (Some (PutPlan plan throttle quota stages)) (commanded lists t (PutPlan plan throttle quota stages)).row kept
    (beside_plans (λ l. option_map staged_of (stage_row l api stage)) (stages_beside api stage) lists (commanded lists t (PutPlan plan throttle quota stages)).row (commanded_plans lists t (PutPlan plan throttle quota stages) refl)) (λ x. refl)
stage_command lists t (JoinKey plan key) kept api stage =
    by_neutral (λ l. option_map staged_of (stage_row l api stage)) (λ c. stage_after c api stage) (λ x. refl) lists (Some (JoinKey plan key)) (commanded lists t (JoinKey plan key)).row kept
    (beside_plans (λ l. option_map staged_of (stage_row l api stage)) (stages_beside api stage) lists (commanded lists t (JoinKey plan key)).row (commanded_plans lists t (JoinKey plan key) refl)) (λ x. refl)
stage_command lists t (Grant plan key amount) kept api stage =
    by_neutral (λ l. option_map staged_of (stage_row l api stage)) (λ c. stage_after c api stage) (λ x. refl) lists (Some (Grant plan key amount)) (commanded lists t (Grant plan key amount)).row kept
    (beside_plans (λ l. option_map staged_of (stage_row l api stage)) (stages_beside api stage) lists (commanded lists t (Grant plan key amount)).row (commanded_plans lists t (Grant plan key amount) refl)) (λ x. refl)
stage_command lists t (Flush at name) kept api stage =
    by_neutral (λ l. option_map staged_of (stage_row l api stage)) (λ c. stage_after c api stage) (λ x. refl) lists (Some (Flush at name)) (commanded lists t (Flush at name)).row kept
    (beside_plans (λ l. option_map staged_of (stage_row l api stage)) (stages_beside api stage) lists (commanded lists t (Flush at name)).row (commanded_plans lists t (Flush at name) refl)) (λ x. refl)
stage_command lists t (Usage plan key) kept api stage =
    by_neutral (λ l. option_map staged_of (stage_row l api stage)) (λ c. stage_after c api stage) (λ x. refl) lists (Some (Usage plan key)) (commanded lists t (Usage plan key)).row kept
    (beside_plans (λ l. option_map staged_of (stage_row l api stage)) (stages_beside api stage) lists (commanded lists t (Usage plan key)).row (commanded_plans lists t (Usage plan key) refl)) (λ x. refl)
stage_command lists t Shutdown kept api stage = refl

deployment_deployed : (lists : Lists) (row : ApiRow) (name api : List ℕ) (number : ℕ) → api_row lists name ≡ Some row
    → option_map deployed_of (deployment_row (put (Deployment (next_deployment row (deployed lists name))) lists) api number)
    ≡ deployment_after (Some (Deploy name)) api number (deployed lists api) (option_map definition_of (api_row lists api)) (option_map deployed_of (deployment_row lists api number))
deployment_deployed lists row name api number e =
    ap (option_map deployed_of) (deployment_put lists.deployments (next_deployment row count) api number (bytes_eq row.api api && (count + 1 == number)) refl)
    ∙ mapped deployed_of (bytes_eq row.api api && (count + 1 == number)) (next_deployment row count) (deployment_row lists api number)
    ∙ ap (λ a. cond (bytes_eq a api && (count + 1 == number)) (Some (definition_of row)) (option_map deployed_of (deployment_row lists api number))) named
    ∙ by_name (bytes_eq name api) refl
  where
    count : ℕ
    count = deployed lists name

    named : row.api ≡ name
    named = same_text row.api name (found_holds (is_api name) lists.apis row e)

    either_way : (a b : ℕ) → (a == b) ≡ (b == a)
    either_way a b = grind arith

    by_name : (b : Bool) → bytes_eq name api ≡ b
        → cond (b && (count + 1 == number)) (Some (definition_of row)) (option_map deployed_of (deployment_row lists api number))
        ≡ cond (b && (number == deployed lists api + 1)) (option_map definition_of (api_row lists api)) (option_map deployed_of (deployment_row lists api number))
    by_name false same = refl
    by_name true same =
        ap (λ b. cond b (Some (definition_of row)) (option_map deployed_of (deployment_row lists api number))) (either_way (count + 1) number)
        ∙ subst (λ a. cond (number == count + 1) (Some (definition_of row)) (option_map deployed_of (deployment_row lists api number))
        ≡ cond (number == deployed lists a + 1) (option_map definition_of (api_row lists a)) (option_map deployed_of (deployment_row lists api number)))
        (same_text name api same)
        (ap (λ d. cond (number == count + 1) d (option_map deployed_of (deployment_row lists api number))) (sym (ap (option_map definition_of) e)))

deployment_command : (lists : Lists) (t : ℕ) (command : Command) (kept : Bool) (api : List ℕ) (number : ℕ)
    → option_map deployed_of (deployment_row (put_kept (commanded lists t command).row kept lists) api number)
    ≡ deployment_after (cond (is_some (commanded lists t command).row && kept) (Some command) None) api number (deployed lists api) (option_map definition_of (api_row lists api)) (option_map deployed_of (deployment_row lists api number))
deployment_command lists t (PutApi name definition) kept api number =
    by_refusal (λ l. option_map deployed_of (deployment_row l api number)) (λ c. deployment_after c api number (deployed lists api) (option_map definition_of (api_row lists api))) (λ x. refl)
    lists (PutApi name definition) (Api (api_of name definition)) Done kept (first_refusal (put_api_tests lists name)) (λ none. refl)
deployment_command lists t (Deploy name) kept api number =
    by_deploy (λ l. option_map deployed_of (deployment_row l api number)) (λ c. deployment_after c api number (deployed lists api) (option_map definition_of (api_row lists api))) (λ x. refl)
    lists name kept (api_row lists name) (deployed lists name) (λ row e. deployment_deployed lists row name api number e)
deployment_command lists t (PutStage name title count variables) kept api number =
    by_refusal (λ l. option_map deployed_of (deployment_row l api number)) (λ c. deployment_after c api number (deployed lists api) (option_map definition_of (api_row lists api))) (λ x. refl)
    lists (PutStage name title count variables) (Stage (stage_of (stage_row lists name title) name title count (column_of (once variables)))) Done kept
    (first_refusal (put_stage_tests lists name title count variables)) (λ none. refl)
deployment_command lists t (PutCanary name title count share variables) kept api number =
    by_unless (λ l. option_map deployed_of (deployment_row l api number)) (λ c. deployment_after c api number (deployed lists api) (option_map definition_of (api_row lists api))) (λ x. refl)
    lists (PutCanary name title count share variables) (canary_for (stage_row lists name title) count share (column_of (once variables))) kept
    (first_refusal (put_canary_tests lists name title count share variables))
    (λ none. by_canary (λ l. option_map deployed_of (deployment_row l api number)) (λ c. deployment_after c api number (deployed lists api) (option_map definition_of (api_row lists api))) (λ x. refl) (λ row l. refl)
    lists (PutCanary name title count share variables) (λ x. refl) (stage_row lists name title) count share (column_of (once variables)) kept)
deployment_command lists t (PromoteCanary name title) kept api number =
    by_promotion (λ l. option_map deployed_of (deployment_row l api number)) (λ c. deployment_after c api number (deployed lists api) (option_map definition_of (api_row lists api))) (λ x. refl) (λ row l. refl)
    lists (PromoteCanary name title) (λ x. refl) (stage_row lists name title) kept
deployment_command lists t (PutKey key value enabled) kept api number =
    by_neutral (λ l. option_map deployed_of (deployment_row l api number)) (λ c. deployment_after c api number (deployed lists api) (option_map definition_of (api_row lists api))) (λ x. refl)
    lists (Some (PutKey key value enabled)) (commanded lists t (PutKey key value enabled)).row kept
    (beside_plans (λ l. option_map deployed_of (deployment_row l api number)) (deployments_beside api number) lists (commanded lists t (PutKey key value enabled)).row (commanded_plans lists t (PutKey key value enabled) refl)) (λ x. refl)
deployment_command lists t (PutPlan plan throttle quota stages) kept api number =
    by_neutral (λ l. option_map deployed_of (deployment_row l api number)) (λ c. deployment_after c api number (deployed lists api) (option_map definition_of (api_row lists api))) (λ x. refl)
    lists (Some (PutPlan plan throttle quota stages)) (commanded lists t (PutPlan plan throttle quota stages)).row kept
    (beside_plans (λ l. option_map deployed_of (deployment_row l api number)) (deployments_beside api number) lists (commanded lists t (PutPlan plan throttle quota stages)).row (commanded_plans lists t (PutPlan plan throttle quota stages) refl)) (λ x. refl)
deployment_command lists t (JoinKey plan key) kept api number =
    by_neutral (λ l. option_map deployed_of (deployment_row l api number)) (λ c. deployment_after c api number (deployed lists api) (option_map definition_of (api_row lists api))) (λ x. refl)
    lists (Some (JoinKey plan key)) (commanded lists t (JoinKey plan key)).row kept
    (beside_plans (λ l. option_map deployed_of (deployment_row l api number)) (deployments_beside api number) lists (commanded lists t (JoinKey plan key)).row (commanded_plans lists t (JoinKey plan key) refl)) (λ x. refl)
deployment_command lists t (Grant plan key amount) kept api number =
    by_neutral (λ l. option_map deployed_of (deployment_row l api number)) (λ c. deployment_after c api number (deployed lists api) (option_map definition_of (api_row lists api))) (λ x. refl)
    lists (Some (Grant plan key amount)) (commanded lists t (Grant plan key amount)).row kept
    (beside_plans (λ l. option_map deployed_of (deployment_row l api number)) (deployments_beside api number) lists (commanded lists t (Grant plan key amount)).row (commanded_plans lists t (Grant plan key amount) refl)) (λ x. refl)
deployment_command lists t (Flush at name) kept api number =
    by_neutral (λ l. option_map deployed_of (deployment_row l api number)) (λ c. deployment_after c api number (deployed lists api) (option_map definition_of (api_row lists api))) (λ x. refl)
    lists (Some (Flush at name)) (commanded lists t (Flush at name)).row kept
    (beside_plans (λ l. option_map deployed_of (deployment_row l api number)) (deployments_beside api number) lists (commanded lists t (Flush at name)).row (commanded_plans lists t (Flush at name) refl)) (λ x. refl)
deployment_command lists t (Usage plan key) kept api number =
    by_neutral (λ l. option_map deployed_of (deployment_row l api number)) (λ c. deployment_after c api number (deployed lists api) (option_map definition_of (api_row lists api))) (λ x. refl)
    lists (Some (Usage plan key)) (commanded lists t (Usage plan key)).row kept
    (beside_plans (λ l. option_map deployed_of (deployment_row l api number)) (deployments_beside api number) lists (commanded lists t (Usage plan key)).row (commanded_plans lists t (Usage plan key) refl)) (λ x. refl)
deployment_command lists t Shutdown kept api number = refl

-- The same of an entry.
definition_event : (state : State) (event : Event) (kept : Bool) (api : List ℕ)
    → option_map definition_of (api_row (put_kept (row_of state event) kept state.lists) api)
    ≡ definition_after (cond (is_some (row_of state event) && kept) (command_of event) None) api (option_map definition_of (api_row state.lists api))
definition_event state (Enter moment word api' stage) kept api = refl
definition_event state (Recall moment name) kept api = refl
definition_event state (Learn moment name policy ttl) kept api = refl
definition_event state (Admit moment api' stage value) kept api =
    by_neutral (λ l. option_map definition_of (api_row l api)) (λ c. definition_after c api) (λ x. refl) state.lists None (row_of state (Admit moment api' stage value)) kept
    (beside_plans (λ l. option_map definition_of (api_row l api)) (definitions_beside api) state.lists (row_of state (Admit moment api' stage value))
    (admitted_plans state.lists (time_of state moment) (api', stage) value)) (λ x. refl)
definition_event state (Admin moment command) kept api = definition_command state.lists (time_of state moment) command kept api
definition_event state (Leave status cause) kept api = refl

stage_event : (state : State) (event : Event) (kept : Bool) (api stage : List ℕ)
    → option_map staged_of (stage_row (put_kept (row_of state event) kept state.lists) api stage)
    ≡ stage_after (cond (is_some (row_of state event) && kept) (command_of event) None) api stage (option_map staged_of (stage_row state.lists api stage))
stage_event state (Enter moment word api' stage') kept api stage = refl
stage_event state (Recall moment name) kept api stage = refl
stage_event state (Learn moment name policy ttl) kept api stage = refl
stage_event state (Admit moment api' stage' value) kept api stage =
    by_neutral (λ l. option_map staged_of (stage_row l api stage)) (λ c. stage_after c api stage) (λ x. refl) state.lists None (row_of state (Admit moment api' stage' value)) kept
    (beside_plans (λ l. option_map staged_of (stage_row l api stage)) (stages_beside api stage) state.lists (row_of state (Admit moment api' stage' value))
    (admitted_plans state.lists (time_of state moment) (api', stage') value)) (λ x. refl)
stage_event state (Admin moment command) kept api stage = stage_command state.lists (time_of state moment) command kept api stage
stage_event state (Leave status cause) kept api stage = refl

deployment_event : (state : State) (event : Event) (kept : Bool) (api : List ℕ) (number : ℕ)
    → option_map deployed_of (deployment_row (put_kept (row_of state event) kept state.lists) api number)
    ≡ deployment_after (cond (is_some (row_of state event) && kept) (command_of event) None) api number (deployed state.lists api) (option_map definition_of (api_row state.lists api)) (option_map deployed_of (deployment_row state.lists api number))
deployment_event state (Enter moment word api' stage) kept api number = refl
deployment_event state (Recall moment name) kept api number = refl
deployment_event state (Learn moment name policy ttl) kept api number = refl
deployment_event state (Admit moment api' stage value) kept api number =
    by_neutral (λ l. option_map deployed_of (deployment_row l api number)) (λ c. deployment_after c api number (deployed state.lists api) (option_map definition_of (api_row state.lists api))) (λ x. refl)
    state.lists None (row_of state (Admit moment api' stage value)) kept
    (beside_plans (λ l. option_map deployed_of (deployment_row l api number)) (deployments_beside api number) state.lists (row_of state (Admit moment api' stage value))
    (admitted_plans state.lists (time_of state moment) (api', stage) value)) (λ x. refl)
deployment_event state (Admin moment command) kept api number = deployment_command state.lists (time_of state moment) command kept api number
deployment_event state (Leave status cause) kept api number = refl

-- and so of all entries, the newest first
definition_is : (opening : Lists) (entries : List Entry) (api : List ℕ) → option_map definition_of (api_row (state_of (opened opening) entries).lists api) ≡ definition_by opening entries api
definition_is opening [] api = refl
definition_is opening (newest ∷ older) api =
    definition_event (state_of (opened opening) older) newest.event newest.kept api
    ∙ ap (definition_after (kept_command (state_of (opened opening) older) newest) api) (definition_is opening older api)

stage_is : (opening : Lists) (entries : List Entry) (api stage : List ℕ) → option_map staged_of (stage_row (state_of (opened opening) entries).lists api stage) ≡ stage_by opening entries api stage
stage_is opening [] api stage = refl
stage_is opening (newest ∷ older) api stage =
    stage_event (state_of (opened opening) older) newest.event newest.kept api stage
    ∙ ap (stage_after (kept_command (state_of (opened opening) older) newest) api stage) (stage_is opening older api stage)

deployment_is : (opening : Lists) (entries : List Entry) (api : List ℕ) (number : ℕ) → option_map deployed_of (deployment_row (state_of (opened opening) entries).lists api number) ≡ deployment_by opening entries api number
deployment_is opening [] api number = refl
deployment_is opening (newest ∷ older) api number =
    let state = state_of (opened opening) older in
    let command = kept_command state newest in
    deployment_event state newest.event newest.kept api number
    ∙ ap (λ d. deployment_after command api number (deployed state.lists api) d (option_map deployed_of (deployment_row state.lists api number))) (definition_is opening older api)
    ∙ ap (deployment_after command api number (deployed state.lists api) (definition_by opening older api)) (deployment_is opening older api number)

entered_is : (opening : Lists) (entries : List Entry) (place at word : ℕ) (api stage : List ℕ) (found : Option StageRow)
    → stage_row (state_of (opened opening) entries).lists api stage ≡ found
    → entered (state_of (opened opening) entries).lists place at word found ≡ entered_by opening entries place at word api (option_map staged_of found)
entered_is opening entries place at word api stage None e = refl
entered_is opening entries place at word api stage (Some row) e = by_taken (is_taken row word)
  where
    viewed_is : (canary : Bool) (number : ℕ) (variables : Vars) (found : Option DeploymentRow)
        → viewed place at canary number variables found ≡ viewed_by place at canary number variables (option_map deployed_of found)
    viewed_is canary number variables None = refl
    viewed_is canary number variables (Some deployment) = refl

    by_number : (canary : Bool) (number : ℕ) (variables : Vars)
        → viewed place at canary number variables (deployment_row (state_of (opened opening) entries).lists row.api number)
        ≡ viewed_by place at canary number variables (deployment_by opening entries api number)
    by_number canary number variables =
        ap (λ a. viewed place at canary number variables (deployment_row (state_of (opened opening) entries).lists a number))
        (found_named (state_of (opened opening) entries).lists.stages api stage row e)
        ∙ viewed_is canary number variables (deployment_row (state_of (opened opening) entries).lists api number)
        ∙ ap (viewed_by place at canary number variables) (deployment_is opening entries api number)

    by_taken : (taken : Bool) → entered_as (state_of (opened opening) entries).lists place at taken row ≡ entered_by_as opening entries place at taken api (staged_of row)
    by_taken true = by_number true row.canary (merged_in row)
    by_taken false = by_number false row.deployment (variables_in row.vars)

-- the view of a stage is that of the last commands
pub views_are : ViewsAreOfTheLastCommands
unfolding state_after
views_are opening history moment word api stage kept =
    let place = length history in
    let at = time_of (state_after opening history) moment in
    entered_is opening (reverse history) place at word api stage (stage_row (state_of (opened opening) (reverse history)).lists api stage) refl
    ∙ ap (entered_by opening (reverse history) place at word api) (stage_is opening (reverse history) api stage)
