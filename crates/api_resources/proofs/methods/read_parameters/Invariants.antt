use Rattle.std.proofs.Common.{◌≡◌, drop}
use Rattle.json_subset.specs.Documents.{form, part, root_tree, member_named}
use Rattle.json_values.specs.Parts.{entries_of, items_of}
use Rattle.api_parts.specs.Reading.{◌>>=◌, each}
use Rattle.api_resources.specs.Methods.{parameters_in, parameters_member}
use Rattle.api_resources.proofs.methods.read_parameters.Given as goal

abbrev pub invariant-loop-i : goal.invariant-loop-i
invariant-loop-i l = each (parameters_member l.path) l.read (drop l.i (entries_of (form (part l.doc l.id)))) ≡ parameters_in l.path l.name (part l.doc l.id)
