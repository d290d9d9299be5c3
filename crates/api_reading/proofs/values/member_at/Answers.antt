use Rattle.json_subset.specs.Documents.{form, part}
use Rattle.json_values.proofs.Seen.{entry_stands}
use Rattle.api_reading.proofs.Listed.{entry_rest}
use Rattle.api_reading.proofs.values.member_at.Goals as goal

pub returns-clause-rest : goal.returns-clause-rest
returns-clause-rest c = entry_rest (form (part c.args.doc.now c.args.id)) c.args.i _ c.in-Some.ensures.1

pub unreachable-requires : goal.unreachable-requires
unreachable-requires c = entry_stands (form (part c.args.doc.now c.args.id)) c.args.i c.requires.within c.in-None.ensures
