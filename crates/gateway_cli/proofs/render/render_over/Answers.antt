use Rattle.std.proofs.Common.{◌≡◌, IfOk, ap, ◌∙◌, subst}
use Rattle.call_facts.specs.Target.{target_of}
use Rattle.method_flow.specs.Answers.{text_over}
use Rattle.vtl_grammar.specs.Templates.{tree_of}
use Rattle.gateway_cli.specs.Render.{shown, shown_over}
use Rattle.gateway_cli.specs.Requests.{render_facts, render_request}
use Rattle.gateway_cli.proofs.render.render_over.Goals as goal

pub returns-clause-output : goal.returns-clause-output
unfolding shown_over
returns-clause-output c =
    let r = c.render_at.result in
    let items = tree_of c.args.template.now in
    let asked = c.in_ok-request.request in
    let target_is : c.in_ok-target.target ≡ target_of (render_request c.args.body.now).target =
    c.in_ok-target.ensures ∙ ap target_of (c.as_str.ensures ∙ ap (λ q. q.target) c.in_ok-request.ensures) in
    let by_facts = subst (λ f. IfOk r (λ s. shown (text_over asked c.in_ok-target.target f items) ≡ record { text = s.text; status = s.status })) c.in_ok-facts.ensures c.render_at.ensures.output in
    let by_target = subst (λ t. IfOk r (λ s. shown (text_over asked t render_facts items) ≡ record { text = s.text; status = s.status })) target_is by_facts in
    subst (λ q. IfOk r (λ s. shown (text_over q (target_of (render_request c.args.body.now).target) render_facts items) ≡ record { text = s.text; status = s.status })) c.in_ok-request.ensures by_target
