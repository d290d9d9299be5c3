use Rattle.std.proofs.Common.{◌≡◌, drop}
use Rattle.json_subset.specs.Documents.{form, part, root_tree, member_named}
use Rattle.json_values.specs.Parts.{entries_of, items_of}
use Rattle.api_parts.specs.Reading.{◌>>=◌, each}
use Rattle.api_resources.specs.Methods.{named_models_in, named_models_member}
use Rattle.api_resources.proofs.methods.read_models.Given as goal

abbrev pub invariant-loop-i : goal.invariant-loop-i
invariant-loop-i l = each (named_models_member (root_tree l.doc)) l.read (drop l.i (entries_of (form (part l.doc l.id)))) ≡ named_models_in (root_tree l.doc) l.name (part l.doc l.id)
