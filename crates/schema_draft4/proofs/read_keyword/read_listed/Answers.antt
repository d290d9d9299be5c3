use Rattle.std.proofs.Common.{◌≡◌, Some, sym, ap, ◌∙◌, arith}
use Rattle.json_subset.specs.Tree.{no_trees}
use Rattle.json_subset.specs.Documents.{form, part}
use Rattle.schema_draft4.specs.Faults.{rest_items}
use Rattle.schema_draft4.specs.Reading.{texts, full}
use Rattle.schema_rules.specs.Views.{names_of}
use Rattle.schema_draft4.proofs.Rests.{items_all}
use Rattle.schema_draft4.proofs.read_keyword.read_listed.Goals as goal

pub returns-clause-list : goal.returns-clause-list
returns-clause-list c =
    let f = form (part c.args.doc.now c.args.id) in
    let ends : c.loop-i.i ≡ c.args.count = omega arith in
    let done : rest_items f c.loop-i.i ≡ no_trees = ap (rest_items f) ends ∙ (items_all f c.args.count c.requires.list).1 in
    c.full.ensures.list ∙ ap (λ z. full (texts (Some (names_of c.loop-i.names)) z)) (sym done) ∙ c.loop-i.invariant.so_far
