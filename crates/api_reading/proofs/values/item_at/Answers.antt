use Rattle.json_subset.specs.Documents.{form, part}
use Rattle.json_values.proofs.Seen.{item_stands}
use Rattle.api_reading.proofs.Listed.{item_rest}
use Rattle.api_reading.proofs.values.item_at.Goals as goal

pub returns-clause-rest : goal.returns-clause-rest
returns-clause-rest c = item_rest (form (part c.args.doc.now c.args.id)) c.args.i _ c.in-Some.ensures.1

pub unreachable-requires : goal.unreachable-requires
unreachable-requires c = item_stands (form (part c.args.doc.now c.args.id)) c.args.i c.requires.within c.in-None.ensures
