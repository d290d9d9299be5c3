-- The view of a stage by what is ready.
use Rattle.std.proofs.Common.{◌≡◌, ℕ, ◌==◌, Bool, true, false, not, ◌&&◌, List, Option, Some, None, cond, arith, ap, sym, ◌∙◌, refl, subst}
use Rattle.std.specs.Option.{option_map}
use Rattle.api_model.specs.Definition.{Definition}
use Rattle.call_facts.specs.declared.vars.Vars.{Vars}
use Rattle.stage_canary.specs.Canaries.{takes_canary}
use Rattle.keeper_core.specs.Lists.{Lists, stage_row, deployment_row}
use Rattle.keeper_core.specs.declared.rows.StageRow.{StageRow}
use Rattle.keeper_core.specs.declared.rows.DeploymentRow.{DeploymentRow}
use Rattle.book_rules.proofs.Viewing.{found_named}
use Rattle.book_rules.specs.Machine.{entered, entered_as, is_taken, viewed}
use Rattle.book_rules.specs.StageCommands.{stage_of}
use Rattle.book_rules.specs.Stored.{deployed_of, merged_in, variables_in}
use Rattle.book_rules.specs.declared.replies.Reply.{Reply}
use Rattle.book_rules.specs.declared.replies.Reply.TheVariants.{Entered, NoStage}
use Rattle.book_opening.specs.Ready.{canary_of, standing_of}
use Rattle.book_opening.specs.declared.ready.Canary.{Canary}
use Rattle.book_opening.specs.declared.ready.Standing.{Standing}
use Rattle.book_core.specs.Standing.{canary_in, is_taken_by, is_taken_to, number_by, number_of_canary, number_to, variables_by, variables_to}

abbrev pub ready_view : ℕ → ℕ → Bool → ℕ → Vars → Option Definition → Reply
ready_view place at canary number variables None = NoStage
ready_view place at canary number variables (Some definition) =
    Entered (record { place = place; at = at; deployment = number; canary = canary; api = definition; variables = variables })

viewed_ready : (place at : ℕ) (canary : Bool) (number : ℕ) (variables : Vars) (found : Option DeploymentRow)
    → viewed place at canary number variables found ≡ ready_view place at canary number variables (option_map deployed_of found)
viewed_ready place at canary number variables None = refl
viewed_ready place at canary number variables (Some deployment) = refl

-- by which deployment a call is answered, and with which variables
abbrev row_number : StageRow → Bool → ℕ
row_number row taken = cond taken row.canary row.deployment

abbrev row_variables : StageRow → Bool → Vars
row_variables row taken = cond taken (merged_in row) (variables_in row.vars)

taken_same : (row : StageRow) (word : ℕ) → is_taken_to (standing_of row) word ≡ is_taken row word
taken_same row word = by_none (row.canary == 0)
  where
    by_none : (b : Bool) → is_taken_by (cond b None (Some (record { deployment = row.canary; share = row.share; variables = merged_in row }))) word ≡ (not b && takes_canary row.share word)
    by_none true = refl
    by_none false = refl

number_same : (row : StageRow) (word : ℕ) → number_to (standing_of row) word ≡ row_number row (is_taken row word)
number_same row word = by_none (row.canary == 0)
  where
    by_none : (b : Bool) → number_by (cond b None (Some (record { deployment = row.canary; share = row.share; variables = merged_in row }))) word (standing_of row)
        ≡ cond (not b && takes_canary row.share word) row.canary row.deployment
    by_none true = refl
    by_none false = refl

variables_same : (row : StageRow) (word : ℕ) → variables_to (standing_of row) word ≡ row_variables row (is_taken row word)
variables_same row word = by_none (row.canary == 0)
  where
    by_none : (b : Bool) → variables_by (cond b None (Some (record { deployment = row.canary; share = row.share; variables = merged_in row }))) word (standing_of row)
        ≡ cond (not b && takes_canary row.share word) (merged_in row) (variables_in row.vars)
    by_none true = refl
    by_none false = refl

entered_taken : (lists : Lists) (place at : ℕ) (taken : Bool) (row : StageRow)
    → entered_as lists place at taken row
    ≡ ready_view place at taken (row_number row taken) (row_variables row taken) (option_map deployed_of (deployment_row lists row.api (row_number row taken)))
entered_taken lists place at true row = viewed_ready place at true row.canary (merged_in row) (deployment_row lists row.api row.canary)
entered_taken lists place at false row = viewed_ready place at false row.deployment (variables_in row.vars) (deployment_row lists row.api row.deployment)

same_standing : (x y : Standing) → Some x ≡ Some y → x ≡ y
same_standing x y e = cc

-- the view of a stage that is ready
pub entered_at : (lists : Lists) (place at word : ℕ) (api stage : List ℕ) (x : Standing) (d : Option Definition)
    → Some x ≡ option_map standing_of (stage_row lists api stage) → d ≡ option_map deployed_of (deployment_row lists api (number_to x word))
    → entered lists place at word (stage_row lists api stage) ≡ ready_view place at (is_taken_to x word) (number_to x word) (variables_to x word) d
entered_at lists place at word api stage x d same points = by_found (stage_row lists api stage) refl
  where
    by_found : (found : Option StageRow) → stage_row lists api stage ≡ found
        → entered lists place at word found ≡ ready_view place at (is_taken_to x word) (number_to x word) (variables_to x word) d
    by_found None e = absurd (neither (same ∙ ap (option_map standing_of) e))
      where
        neither : Some x ≡ None → ⊥
        neither f = cc
    by_found (Some row) e =
        let is : x ≡ standing_of row = same_standing x (standing_of row) (same ∙ ap (option_map standing_of) e) in
        entered_taken lists place at (is_taken row word) row
        ∙ ap (λ a. ready_view place at (is_taken row word) (row_number row (is_taken row word)) (row_variables row (is_taken row word))
        (option_map deployed_of (deployment_row lists a (row_number row (is_taken row word))))) (found_named lists.stages api stage row e)
        ∙ ap (λ n. ready_view place at (is_taken row word) n (row_variables row (is_taken row word)) (option_map deployed_of (deployment_row lists api n))) (sym (number_same row word))
        ∙ ap (λ v. ready_view place at (is_taken row word) (number_to (standing_of row) word) v (option_map deployed_of (deployment_row lists api (number_to (standing_of row) word))))
        (sym (variables_same row word))
        ∙ ap (λ t. ready_view place at t (number_to (standing_of row) word) (variables_to (standing_of row) word) (option_map deployed_of (deployment_row lists api (number_to (standing_of row) word))))
        (sym (taken_same row word))
        ∙ ap (λ s. ready_view place at (is_taken_to s word) (number_to s word) (variables_to s word) (option_map deployed_of (deployment_row lists api (number_to s word)))) (sym is)
        ∙ ap (ready_view place at (is_taken_to x word) (number_to x word) (variables_to x word)) (sym points)

-- the number of a canary that stays
pub canary_stays : (found : Option StageRow) (name title : List ℕ) (number : ℕ) (vars : List ℕ) → canary_in (option_map standing_of found) ≡ (stage_of found name title number vars).canary
canary_stays None name title number vars = refl
canary_stays (Some row) name title number vars = by_none (row.canary == 0) refl
  where
    zero_of : (n : ℕ) → (n == 0) ≡ true → n ≡ 0
    zero_of n e = grind arith

    by_none : (b : Bool) → (row.canary == 0) ≡ b
        → number_of_canary (cond b None (Some (record { deployment = row.canary; share = row.share; variables = merged_in row }))) ≡ row.canary
    by_none true e = sym (zero_of row.canary e)
    by_none false e = refl
