use Rattle.std.proofs.Common.{◌≡◌, ◌∷◌, [], MatchOption, rules}
use Rattle.json_subset.specs.Documents.{IsPart, part, root_tree}
use Rattle.jsonpath_core.specs.Selecting.{select}
use Rattle.jsonpath_core.proofs.Parts.{if_one}
use Rattle.jsonpath_core.proofs.path.Path.one.Goals as goal

pub returns-clause-within : goal.returns-clause-within
returns-clause-within c =
    let d = c.args.doc.now in
    let steps = c.args.self.now in
    let h : MatchOption c.select_one.result (select steps (root_tree d) ≡ []) (λ k. IsPart d k × (select steps (root_tree d) ≡ part d k ∷ [])) = search rules in
    if_one steps d c.select_one.result h
