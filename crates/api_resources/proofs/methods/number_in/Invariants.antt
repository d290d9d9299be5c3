use Rattle.std.proofs.Common.{◌≡◌, drop}
use Rattle.json_subset.specs.Documents.{form, part, root_tree, member_named}
use Rattle.json_values.specs.Parts.{entries_of, items_of}
use Rattle.api_parts.specs.Reading.{◌>>=◌, each}
use Rattle.api_resources.specs.Methods.{number_from}
use Rattle.api_resources.proofs.methods.number_in.Given as goal

abbrev pub invariant-loop-i : goal.invariant-loop-i
invariant-loop-i l = number_from l.i (drop l.i (entries_of (form (part l.doc l.id)))) l.name ≡ number_from 0 (entries_of (form (part l.doc l.id))) l.name
