use Rattle.std.proofs.Common.{◌≡◌, length, arith}
use Rattle.json_subset.specs.Documents.{form, part}
use Rattle.json_values.specs.Parts.{items_of}
use Rattle.json_values.proofs.Seen.{item_less, item_stands, list_form}
use Rattle.schema_draft4.proofs.Rests.{item_rest}
use Rattle.schema_draft4.proofs.look.item_of.Goals as goal

pub returns-clause-rest : goal.returns-clause-rest
returns-clause-rest c = item_rest (form (part c.args.doc.now c.args.id)) c.args.i _ c.in-Some.ensures.1

pub returns-clause-less : goal.returns-clause-less
returns-clause-less c = item_less (part c.args.doc.now c.args.id) c.args.i _ c.in-Some.ensures.1

pub unreachable-requires : goal.unreachable-requires
unreachable-requires c =
    let counted : c.args.count ≡ length (items_of (form (part c.args.doc.now c.args.id))) = (list_form (form (part c.args.doc.now c.args.id)) c.args.count c.requires.list).1 in
    item_stands (form (part c.args.doc.now c.args.id)) c.args.i (omega (arith, counted, c.requires.within)) c.in-None.ensures
