use Rattle.std.proofs.Common.{◌≡◌, ◌+◌, ◌++◌, map, sym, ap, ◌∙◌, arith}
use Rattle.std.proofs.lemmas.List.{append-nil}
use Rattle.json_subset.specs.Tree.{no_members}
use Rattle.json_subset.specs.Documents.{form, part}
use Rattle.schema_draft4.specs.Faults.{rest_members}
use Rattle.schema_draft4.specs.Reading.{numbered}
use Rattle.schema_rules.specs.Views.{named_schema}
use Rattle.schema_draft4.proofs.Rests.{members_all}
use Rattle.schema_draft4.proofs.definitions.numbered.Goals as goal

pub returns-clause-list : goal.returns-clause-list
returns-clause-list c =
    let f = form (part c.args.doc.now c.args.id) in
    let before = map named_schema c.loop-i.members.list.items in
    let ends : c.loop-i.i ≡ c.args.count = omega arith in
    let done : rest_members f c.loop-i.i ≡ no_members = ap (rest_members f) ends ∙ (members_all f c.args.count c.requires.object).1 in
    sym (append-nil before) ∙ ap (λ z. before ++ numbered (c.loop-i.i + 1) z) (sym done) ∙ c.loop-i.invariant.so_far
