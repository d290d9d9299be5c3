use Rattle.std.proofs.Common.{◌≡◌, ◌≢◌, Ok, Err, IfOk, IfErr, ap, ◌∙◌, subst}
use Rattle.gateway_vars.specs.Held.{asked}
use Rattle.gateway_vars.specs.Meanings.{meanings_of, request_kept}
use Rattle.gateway_vars.specs.declared.slots.Side.TheVariants as sides
use Rattle.vtl_eval.specs.Meaning.{rendering}
use Rattle.vtl_eval.specs.declared.stop.Stop.TheVariants.{Memory}
use Rattle.vtl_grammar.specs.Expanded.{expanded}
use Rattle.vtl_grammar.specs.Templates.{tree_of}
use Rattle.method_flow.specs.Answers.{budget, nothing_found, without_writes}
use Rattle.method_flow.proofs.Renders.{made_is, met_is}
use Rattle.method_flow.proofs.texts.render_text.Goals as goal

pub returns-clause-made : goal.returns-clause-made
unfolding budget
returns-clause-made c =
    let items = expanded (tree_of c.args.template.now) in
    let held = c.in-Ok.ensures.held ∙ ap (λ f. asked c.args.request.now c.args.target.now f c.args.facts.now) c.nothing_found-found.ensures in
    let made = made_is c.render.result _ _ c.render.ensures.made in
    subst (λ kept. IfOk c.render.result (λ x. without_writes (rendering 1000000 (meanings_of sides.Request (asked c.args.request.now c.args.target.now nothing_found c.args.facts.now)) items kept) ≡ Ok x)) c.in-Ok.ensures.kept
    (subst (λ h. IfOk c.render.result (λ x. without_writes (rendering 1000000 (meanings_of sides.Request h) items (request_kept c.in-Ok.roots)) ≡ Ok x)) held made)

pub returns-clause-stop : goal.returns-clause-stop
unfolding budget
returns-clause-stop c =
    let items = expanded (tree_of c.args.template.now) in
    let held = c.in-Ok.ensures.held ∙ ap (λ f. asked c.args.request.now c.args.target.now f c.args.facts.now) c.nothing_found-found.ensures in
    let met = met_is c.render.result _ _ c.render.ensures.stop in
    subst (λ kept. IfErr c.render.result (λ e. e ≢ Memory → without_writes (rendering 1000000 (meanings_of sides.Request (asked c.args.request.now c.args.target.now nothing_found c.args.facts.now)) items kept) ≡ Err e)) c.in-Ok.ensures.kept
    (subst (λ h. IfErr c.render.result (λ e. e ≢ Memory → without_writes (rendering 1000000 (meanings_of sides.Request h) items (request_kept c.in-Ok.roots)) ≡ Err e)) held met)
