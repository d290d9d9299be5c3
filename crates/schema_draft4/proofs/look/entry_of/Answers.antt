use Rattle.std.proofs.Common.{◌≡◌, length, arith}
use Rattle.json_subset.specs.Documents.{form, part}
use Rattle.json_values.specs.Parts.{entries_of}
use Rattle.json_values.proofs.Seen.{entry_less, entry_stands, object_form}
use Rattle.schema_draft4.proofs.Rests.{entry_rest}
use Rattle.schema_draft4.proofs.look.entry_of.Goals as goal

pub returns-clause-rest : goal.returns-clause-rest
returns-clause-rest c = entry_rest (form (part c.args.doc.now c.args.id)) c.args.i _ c.in-Some.ensures.1

pub returns-clause-less : goal.returns-clause-less
returns-clause-less c = entry_less (part c.args.doc.now c.args.id) c.args.i _ c.in-Some.ensures.1

pub unreachable-requires : goal.unreachable-requires
unreachable-requires c =
    let counted : c.args.count ≡ length (entries_of (form (part c.args.doc.now c.args.id))) = (object_form (form (part c.args.doc.now c.args.id)) c.args.count c.requires.object).1 in
    entry_stands (form (part c.args.doc.now c.args.id)) c.args.i (omega (arith, counted, c.requires.within)) c.in-None.ensures
