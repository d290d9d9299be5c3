use Rattle.std.proofs.Common.{◌≡◌, ◌∙◌, ap, map}
use Rattle.std.proofs.lemmas.Result.{IfOk-weaker}
use Rattle.json_subset.specs.Documents.{part, root_tree}
use Rattle.jsonpath_core.specs.Selecting.{select}
use Rattle.gateway_vars.specs.Documents.{value_of, all_values}
use Rattle.gateway_vars.proofs.Values.{map_of_map}
use Rattle.gateway_vars.proofs.payload.all_values.Goals as goal

pub returns : goal.returns
returns c =
    let tree = part c.args.doc.now in
    IfOk-weaker c.values_or_null.result (λ v. v ≡ all_values (map (λ k. value_of (tree k)) c.deref.result.now)) (λ v. v ≡ all_values (map value_of (select c.args.path.now (root_tree c.args.doc.now))))
    (λ v is. is ∙ ap all_values (map_of_map value_of tree c.deref.result.now ∙ ap (map value_of) (ap (map tree) c.deref.ensures.value ∙ c.in_ok-nodes.ensures.selected)))
    c.values_or_null.ensures
