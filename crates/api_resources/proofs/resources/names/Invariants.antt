use Rattle.std.proofs.Common.{◌≡◌, drop}
use Rattle.json_subset.specs.Documents.{form, part, root_tree, member_named}
use Rattle.json_values.specs.Parts.{entries_of, items_of}
use Rattle.api_parts.specs.Reading.{◌>>=◌, each}
use Rattle.std.specs.Prelude.{◌++◌}
use Rattle.api_resources.specs.Resources.{paths_of}
use Rattle.api_resources.proofs.resources.names.Given as goal

abbrev pub invariant-loop-i : goal.invariant-loop-i
invariant-loop-i l = l.names.items ++ paths_of (drop l.i (entries_of (form (part l.doc l.id)))) ≡ paths_of (entries_of (form (part l.doc l.id)))
