use Rattle.std.proofs.Common.{◌≡◌, drop}
use Rattle.json_subset.specs.Documents.{form, part, root_tree, member_named}
use Rattle.json_values.specs.Parts.{entries_of, items_of}
use Rattle.api_parts.specs.Reading.{◌>>=◌, each}
use Rattle.api_resources.specs.Methods.{method_in, method_member, method_of}
use Rattle.api_resources.proofs.methods.read_method.Given as goal

abbrev pub invariant-loop-i : goal.invariant-loop-i
invariant-loop-i l = (each (method_member (root_tree l.doc) l.path) l.read (drop l.i (entries_of (form (part l.doc l.id)))) >>= method_of l.verb) ≡ method_in (root_tree l.doc) l.path l.verb (part l.doc l.id)
