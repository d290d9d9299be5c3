use Rattle.std.proofs.Common.{rules, ◌≡◌, ℕ, true, None, Some, OnErr, sym, subst, ◌∙◌, ap}
use Rattle.std.specs.Option.{option_map}
use Rattle.keeper_core.specs.Lists.{stage_row, deployment_row}
use Rattle.book_rules.specs.Machine.{is_shared}
use Rattle.book_rules.specs.Stored.{deployed_of}
use Rattle.book_opening.specs.Ready.{standing_of}
use Rattle.book_core.specs.Standing.{is_taken_to, number_to, variables_to}
use Rattle.book_core.proofs.Entering.{entered_at, ready_view}
use Rattle.book_core.proofs.current.enter.Goals as goal

pub returns-in_default-find_deployment-clause-reply : goal.returns-in_default-find_deployment-clause-reply
returns-in_default-find_deployment-clause-reply c =
    let lists = c.args.tables.now.lists in
    let e = c.args.entering in
    let x = c.in-Some.stands.now in
    let same : Some x ≡ option_map standing_of (stage_row lists c.args.api.now c.args.stage.now) = search rules in
    let at_chosen : None ≡ option_map deployed_of (deployment_row lists c.args.api.now c.choose-chosen.result.deployment) = search rules in
    let points = at_chosen ∙ ap (λ n. option_map deployed_of (deployment_row lists c.args.api.now n)) c.choose-chosen.ensures.deployment in
    sym (entered_at lists e.place e.at e.word c.args.api.now c.args.stage.now x None same points)

pub returns-in_err-share-clause-memory : goal.returns-in_err-share-clause-memory
returns-in_err-share-clause-memory c =
    let lists = c.args.tables.now.lists in
    let e = c.args.entering in
    let x = c.in-Some.stands.now in
    let d = Some c.in-Some-find_deployment.definition.now in
    let same : Some x ≡ option_map standing_of (stage_row lists c.args.api.now c.args.stage.now) = search rules in
    let at_chosen : d ≡ option_map deployed_of (deployment_row lists c.args.api.now c.choose-chosen.result.deployment) = search rules in
    let points = at_chosen ∙ ap (λ n. option_map deployed_of (deployment_row lists c.args.api.now n)) c.choose-chosen.ensures.deployment in
    let is = entered_at lists e.place e.at e.word c.args.api.now c.args.stage.now x d same points in
    subst (λ v. OnErr c.from_residual.result (is_shared v ≡ true)) (sym is) (search rules)

pub returns-in_err-share-2-clause-memory : goal.returns-in_err-share-2-clause-memory
returns-in_err-share-2-clause-memory c =
    let lists = c.args.tables.now.lists in
    let e = c.args.entering in
    let x = c.in-Some.stands.now in
    let d = Some c.in-Some-find_deployment.definition.now in
    let same : Some x ≡ option_map standing_of (stage_row lists c.args.api.now c.args.stage.now) = search rules in
    let at_chosen : d ≡ option_map deployed_of (deployment_row lists c.args.api.now c.choose-chosen.result.deployment) = search rules in
    let points = at_chosen ∙ ap (λ n. option_map deployed_of (deployment_row lists c.args.api.now n)) c.choose-chosen.ensures.deployment in
    let is = entered_at lists e.place e.at e.word c.args.api.now c.args.stage.now x d same points in
    subst (λ v. OnErr c.from_residual-in_err-share-2.result (is_shared v ≡ true)) (sym is) (search rules)

pub returns-clause-reply : goal.returns-clause-reply
returns-clause-reply c =
    let lists = c.args.tables.now.lists in
    let e = c.args.entering in
    let x = c.in-Some.stands.now in
    let d = c.in-Some-find_deployment.definition.now in
    let chosen = c.choose-chosen.result in
    let same : Some x ≡ option_map standing_of (stage_row lists c.args.api.now c.args.stage.now) = search rules in
    let at_chosen : Some d ≡ option_map deployed_of (deployment_row lists c.args.api.now chosen.deployment) = search rules in
    let points = at_chosen ∙ ap (λ n. option_map deployed_of (deployment_row lists c.args.api.now n)) c.choose-chosen.ensures.deployment in
    let is = entered_at lists e.place e.at e.word c.args.api.now c.args.stage.now x (Some d) same points in
    ap (λ definition. ready_view e.place e.at chosen.canary chosen.deployment c.in_ok-share-2.field-0 (Some definition)) c.in_ok-share.ensures
    ∙ ap (λ variables. ready_view e.place e.at chosen.canary chosen.deployment variables (Some d)) (c.in_ok-share-2.ensures ∙ c.choose-chosen.ensures.variables)
    ∙ ap (λ n. ready_view e.place e.at chosen.canary n (variables_to x e.word) (Some d)) c.choose-chosen.ensures.deployment
    ∙ ap (λ b. ready_view e.place e.at b (number_to x e.word) (variables_to x e.word) (Some d)) c.choose-chosen.ensures.canary
    ∙ sym is
