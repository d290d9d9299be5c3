-- What holds of the variables of stages, over any history from tables that a book starts from: what a promotion writes is read back.
use Rattle.std.specs.Prelude.{◌≡◌, ℕ, Bool, true, false, List, [], ◌∷◌, ◌++◌, length, reverse, Some, None, IfSome}
use Rattle.keeper_core.specs.Lists.{Lists}
use Rattle.book_rules.specs.Good.{bad_row}
use Rattle.book_rules.specs.History.{state_after, reply}
use Rattle.book_rules.specs.Machine.{time_of}
use Rattle.book_rules.specs.Names.{are_variables}
use Rattle.book_rules.specs.Views.{Staged, stage_by, deployment_by, kept_command, merged_of, no_variables, promoted_of, viewed_by}
use Rattle.book_rules.specs.declared.events.Command.TheVariants.{PromoteCanary}
use Rattle.book_rules.specs.declared.events.Event.TheVariants.{Enter}
use Rattle.book_rules.specs.declared.events.Entry.{Entry}

-- each pair of a stage, and of its canary, is a variable: a name, and a text of at most 2,048 bytes
abbrev pub HasVariables : Staged → Type 0
HasVariables staged = (are_variables staged.variables.pairs ≡ true) × (are_variables staged.canary_variables.pairs ≡ true)

-- the stage stands so after the history
abbrev pub IsStage : Lists → List Entry → List ℕ → List ℕ → Staged → Type 0
IsStage opening history api stage staged = stage_by opening (reverse history) api stage ≡ Some staged

-- the entry that comes after the history is a PromoteCanary of this stage, which was carried out and kept
abbrev pub IsPromotion : Lists → List Entry → List ℕ → List ℕ → Entry → Type 0
IsPromotion opening history api stage entry = kept_command (state_after opening history) entry ≡ Some (PromoteCanary api stage)

-- STAGES HAVE VARIABLES, and so do their canaries
abbrev pub StagesHaveVariables : Type 0
StagesHaveVariables =
    (opening : Lists) (history : List Entry) (api stage : List ℕ) → bad_row opening ≡ None
    → IfSome (stage_by opening (reverse history) api stage) HasVariables

-- A PROMOTED STAGE has the canary's deployment and just the merged variables, and no canary
abbrev pub PromotedStagesHaveTheMergedVariables : Type 0
PromotedStagesHaveTheMergedVariables =
    (opening : Lists) (history : List Entry) (api stage : List ℕ) (staged : Staged)
    → bad_row opening ≡ None → IsStage opening history api stage staged
    → promoted_of staged ≡ record { deployment = staged.canary; variables = merged_of staged; canary = 0; share = 0; canary_variables = no_variables }

-- CALLS SEE WHAT THE CANARY SAW: right behind a promotion each call of the stage, of whatever word, sees the deployment and the variables
-- that the canary's calls saw before it
abbrev pub CallsSeeWhatTheCanarySaw : Type 0
CallsSeeWhatTheCanarySaw =
    (opening : Lists) (history : List Entry) (promotion : Entry) (api stage : List ℕ) (staged : Staged) (moment word : ℕ) (kept : Bool)
    → bad_row opening ≡ None → IsStage opening history api stage staged → IsPromotion opening history api stage promotion
    → reply opening (history ++ promotion ∷ []) (Enter moment word api stage) kept
    ≡ viewed_by (length (history ++ promotion ∷ [])) (time_of (state_after opening (history ++ promotion ∷ [])) moment) false
    staged.canary (merged_of staged) (deployment_by opening (reverse history) api staged.canary)
