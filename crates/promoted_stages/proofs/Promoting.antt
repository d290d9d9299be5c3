-- What a promotion leaves, and what the calls behind it see.
use Rattle.std.proofs.Common.{◌≡◌, ◌∙◌, ap, subst, refl, ℕ, true, false, ◌&&◌, List, [], ◌∷◌, ◌++◌, length, reverse, cond, Some, None, IfSome}
use Rattle.std.specs.Str.{bytes_eq}
use Rattle.std.proofs.lemmas.List.{reverse-append}
use Rattle.std.proofs.lemmas.Slice.Eq.{bytes_eq-Decides}
use Rattle.keeper_core.specs.Lists.{Lists}
use Rattle.book_rules.proofs.Viewing.{views_are}
use Rattle.book_rules.specs.Good.{bad_row}
use Rattle.book_rules.specs.History.{state_of, state_after}
use Rattle.book_rules.specs.Machine.{opened, time_of}
use Rattle.book_rules.specs.StageCommands.{deployed}
use Rattle.book_rules.specs.Views.{Staged, definition_by, deployment_after, deployment_by, entered_by, kept_command, merged_of, promoted_of, stage_after, stage_by, viewed_by}
use Rattle.book_rules.specs.declared.events.Command.TheVariants.{PromoteCanary}
use Rattle.book_rules.specs.declared.events.Entry.{Entry}
use Rattle.promoted_stages.specs.Laws.{HasVariables, IsPromotion, IsStage, CallsSeeWhatTheCanarySaw, PromotedStagesHaveTheMergedVariables}
use Rattle.promoted_stages.proofs.Staging.{merged_back, stages_have}

pub promoted_is : PromotedStagesHaveTheMergedVariables
promoted_is opening history api stage staged good is =
    merged_back staged (subst (λ found. IfSome found HasVariables) is (stages_have opening history api stage good))

is_itself : (a : List ℕ) → bytes_eq a a ≡ true
is_itself a = (bytes_eq-Decides a a).1 refl

-- the command of a promotion, by the state before it
promotion_is : (opening : Lists) (history : List Entry) (api stage : List ℕ) (promotion : Entry) → IsPromotion opening history api stage promotion
    → kept_command (state_of (opened opening) (reverse history)) promotion ≡ Some (PromoteCanary api stage)
unfolding state_after
promotion_is opening history api stage promotion e = e

-- the stage behind it
stage_behind : (opening : Lists) (history : List Entry) (api stage : List ℕ) (staged : Staged) (promotion : Entry)
    → IsStage opening history api stage staged → IsPromotion opening history api stage promotion
    → stage_by opening (promotion ∷ reverse history) api stage ≡ Some (promoted_of staged)
stage_behind opening history api stage staged promotion is e =
    ap (λ c. stage_after c api stage (stage_by opening (reverse history) api stage)) (promotion_is opening history api stage promotion e)
    ∙ ap (stage_after (Some (PromoteCanary api stage)) api stage) is
    ∙ ap (λ b. cond (b && bytes_eq stage stage) (Some (promoted_of staged)) (Some staged)) (is_itself api)
    ∙ ap (λ b. cond b (Some (promoted_of staged)) (Some staged)) (is_itself stage)

-- it leaves the deployments
deployment_behind : (opening : Lists) (history : List Entry) (api stage : List ℕ) (number : ℕ) (promotion : Entry) → IsPromotion opening history api stage promotion
    → deployment_by opening (promotion ∷ reverse history) api number ≡ deployment_by opening (reverse history) api number
deployment_behind opening history api stage number promotion e =
    let older = reverse history in
    ap (λ c. deployment_after c api number (deployed (state_of (opened opening) older).lists api) (definition_by opening older api) (deployment_by opening older api number))
    (promotion_is opening history api stage promotion e)

-- the view behind it, whatever the word: there is no canary
view_behind : (opening : Lists) (history : List Entry) (promotion : Entry) (api stage : List ℕ) (staged : Staged) (place at word : ℕ)
    → bad_row opening ≡ None → IsStage opening history api stage staged → IsPromotion opening history api stage promotion
    → entered_by opening (promotion ∷ reverse history) place at word api (stage_by opening (promotion ∷ reverse history) api stage)
    ≡ viewed_by place at false staged.canary (merged_of staged) (deployment_by opening (reverse history) api staged.canary)
view_behind opening history promotion api stage staged place at word good is e =
    let seen = promotion ∷ reverse history in
    ap (entered_by opening seen place at word api) (stage_behind opening history api stage staged promotion is e)
    ∙ ap (λ behind. entered_by opening seen place at word api (Some behind)) (promoted_is opening history api stage staged good is)
    ∙ ap (viewed_by place at false staged.canary (merged_of staged)) (deployment_behind opening history api stage staged.canary promotion e)

pub calls_see : CallsSeeWhatTheCanarySaw
calls_see opening history promotion api stage staged moment word kept good is e =
    let seen = history ++ promotion ∷ [] in
    let place = length seen in
    let at = time_of (state_after opening seen) moment in
    views_are opening seen moment word api stage kept
    ∙ ap (λ newest_first. entered_by opening newest_first place at word api (stage_by opening newest_first api stage)) (reverse-append history (promotion ∷ []))
    ∙ view_behind opening history promotion api stage staged place at word good is e
