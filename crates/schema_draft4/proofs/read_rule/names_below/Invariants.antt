use Rattle.std.proofs.Common.{◌≡◌, ◌++◌}
use Rattle.json_subset.specs.Documents.{form, part}
use Rattle.schema_draft4.specs.Faults.{rest_members}
use Rattle.schema_draft4.specs.Reading.{named_parts, names_in}
use Rattle.schema_rules.specs.Views.{IsNameSet, names_of}
use Rattle.schema_draft4.proofs.read_rule.names_below.Given as goal

abbrev pub invariant-loop-i : goal.invariant-loop-i
invariant-loop-i l = record {
  set : IsNameSet l.names;
  so_far : names_of l.names ++ names_in (rest_members (form (part l.doc l.id)) l.i) ≡ named_parts (form (part l.doc l.id));
}
