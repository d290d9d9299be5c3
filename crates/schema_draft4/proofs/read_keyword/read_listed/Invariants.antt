use Rattle.std.proofs.Common.{◌≡◌, Some}
use Rattle.json_subset.specs.Documents.{form, part}
use Rattle.schema_draft4.specs.Faults.{rest_items}
use Rattle.schema_draft4.specs.Reading.{texts, texts_in, full}
use Rattle.schema_rules.specs.Views.{IsNameSet, names_of}
use Rattle.schema_draft4.proofs.read_keyword.read_listed.Given as goal

abbrev pub invariant-loop-i : goal.invariant-loop-i
invariant-loop-i l = record {
  set : IsNameSet l.names;
  so_far : full (texts (Some (names_of l.names)) (rest_items (form (part l.doc l.id)) l.i)) ≡ texts_in (part l.doc l.id);
}
