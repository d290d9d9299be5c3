use Rattle.std.proofs.Common.{◌≡◌, ◌∙◌, ap, map}
use Rattle.std.proofs.lemmas.Result.{IfOk-weaker}
use Rattle.json_subset.specs.Documents.{part, root_tree}
use Rattle.jsonpath_core.specs.Selecting.{select}
use Rattle.gateway_vars.specs.Documents.{node_text}
use Rattle.integration_flow.proofs.Texts.{map_of_map}
use Rattle.integration_flow.proofs.bodies.selected_texts.Goals as goal

pub returns : goal.returns
returns c =
    let text = node_text c.args.doc.now.text in
    let tree = part c.args.doc.now in
    IfOk-weaker c.texts_of.result (λ v. v.items ≡ map (λ k. text (tree k)) c.deref.result.now) (λ v. v.items ≡ map text (select c.args.path.now (root_tree c.args.doc.now)))
    (λ v is. is ∙ map_of_map text tree c.deref.result.now ∙ ap (map text) (ap (map tree) c.deref.ensures.value ∙ c.in_ok-nodes.ensures.selected))
    c.texts_of.ensures
