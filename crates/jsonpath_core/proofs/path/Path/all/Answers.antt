use Rattle.std.proofs.Common.{◌≡◌, map, rules}
use Rattle.std.specs.Prelude.{IfOk}
use Rattle.json_subset.specs.Documents.{part, root_tree}
use Rattle.jsonpath_core.specs.Selecting.{select}
use Rattle.jsonpath_core.proofs.Parts.{if_found}
use Rattle.jsonpath_core.proofs.path.Path.all.Goals as goal

pub returns-clause-within : goal.returns-clause-within
returns-clause-within c =
    let d = c.args.doc.now in
    let steps = c.args.self.now in
    let h : IfOk c.select_all.result (λ v. map (part d) v.items ≡ select steps (root_tree d)) = search rules in
    if_found steps d c.select_all.result h
