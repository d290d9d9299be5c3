use Rattle.std.proofs.Common.{refl}
use Rattle.json_subset.specs.Documents.{form, part}
use Rattle.api_reading.proofs.Listed.{no_entries}
use Rattle.api_reading.proofs.values.entry_count.Goals as goal

pub returns-in-Null : goal.returns-in-Null
returns-in-Null c = no_entries (form (part c.args.doc.now c.args.id)) _ c.in-Null.ensures refl

pub returns-in-Bool : goal.returns-in-Bool
returns-in-Bool c = no_entries (form (part c.args.doc.now c.args.id)) _ c.in-Bool.ensures refl

pub returns-in-Whole : goal.returns-in-Whole
returns-in-Whole c = no_entries (form (part c.args.doc.now c.args.id)) _ c.in-Whole.ensures refl

pub returns-in-Decimal : goal.returns-in-Decimal
returns-in-Decimal c = no_entries (form (part c.args.doc.now c.args.id)) _ c.in-Decimal.ensures refl

pub returns-in-Wide : goal.returns-in-Wide
returns-in-Wide c = no_entries (form (part c.args.doc.now c.args.id)) _ c.in-Wide.ensures refl

pub returns-in-Text : goal.returns-in-Text
returns-in-Text c = no_entries (form (part c.args.doc.now c.args.id)) _ c.in-Text.ensures refl

pub returns-in-List : goal.returns-in-List
returns-in-List c = no_entries (form (part c.args.doc.now c.args.id)) _ c.in-List.ensures refl
