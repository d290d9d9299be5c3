use Rattle.std.proofs.Common.{◌≡◌, drop}
use Rattle.json_subset.specs.Documents.{form, part, root_tree, member_named}
use Rattle.json_values.specs.Parts.{entries_of, items_of}
use Rattle.api_parts.specs.Reading.{◌>>=◌, each}
use Rattle.api_resources.specs.Resources.{verbs_in, verbs_member}
use Rattle.api_resources.proofs.resources.read_verbs.Given as goal

abbrev pub invariant-loop-i : goal.invariant-loop-i
invariant-loop-i l = each (verbs_member (root_tree l.doc) l.path) l.read (drop l.i (entries_of (form (part l.doc l.id)))) ≡ verbs_in (root_tree l.doc) l.fn.methods l.path (part l.doc l.id)
