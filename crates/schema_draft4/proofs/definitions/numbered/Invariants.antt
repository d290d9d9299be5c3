use Rattle.std.proofs.Common.{◌≡◌, ◌+◌, ◌++◌, map}
use Rattle.json_subset.specs.Documents.{form, part}
use Rattle.json_values.specs.Values.{IsIndexed}
use Rattle.schema_draft4.specs.Faults.{rest_members}
use Rattle.schema_draft4.specs.Reading.{numbered, numbered_form}
use Rattle.schema_rules.specs.Views.{named_schema}
use Rattle.schema_draft4.proofs.definitions.numbered.Given as goal

abbrev pub invariant-loop-i : goal.invariant-loop-i
invariant-loop-i l = record {
  indexed : IsIndexed l.members.list.items l.members.index;
  so_far : map named_schema l.members.list.items ++ numbered (l.i + 1) (rest_members (form (part l.doc l.id)) l.i) ≡ numbered_form (form (part l.doc l.id));
}
