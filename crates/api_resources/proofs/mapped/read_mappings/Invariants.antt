use Rattle.std.proofs.Common.{◌≡◌, drop}
use Rattle.json_subset.specs.Documents.{form, part, root_tree, member_named}
use Rattle.json_values.specs.Parts.{entries_of, items_of}
use Rattle.api_parts.specs.Reading.{◌>>=◌, each}
use Rattle.api_resources.specs.Mapped.{mappings_in, mappings_member}
use Rattle.api_resources.proofs.mapped.read_mappings.Given as goal

abbrev pub invariant-loop-i : goal.invariant-loop-i
invariant-loop-i l = each (mappings_member l.side l.path) l.read (drop l.i (entries_of (form (part l.doc l.id)))) ≡ mappings_in l.side l.path l.name (part l.doc l.id)
