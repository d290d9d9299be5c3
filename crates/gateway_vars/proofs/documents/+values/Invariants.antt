use Rattle.std.proofs.Common.{◌≡◌, ◌+◌, ◌*◌, map, take}
use Rattle.json_subset.specs.Grammar.{depth}
use Rattle.json_subset.specs.Documents.{part, form}
use Rattle.json_values.specs.Parts.{items_of, entries_of}
use Rattle.gateway_vars.specs.Documents.{value_of, member_row}
use Rattle.gateway_vars.proofs.documents.+values.Given as goal

abbrev pub decreases-node_value : goal.decreases-node_value
decreases-node_value l = 3 * depth (part l.doc.now l.id) + 2

abbrev pub decreases-list_value : goal.decreases-list_value
decreases-list_value l = 3 * depth (part l.doc.now l.id) + 1

abbrev pub decreases-object_value : goal.decreases-object_value
decreases-object_value l = 3 * depth (part l.doc.now l.id) + 1

abbrev pub decreases-item_value : goal.decreases-item_value
decreases-item_value l = 3 * depth (part l.doc.now l.id)

abbrev pub decreases-member_value : goal.decreases-member_value
decreases-member_value l = 3 * depth (part l.doc.now l.id)

abbrev pub invariant-list_value-loop-i : goal.invariant-list_value-loop-i
invariant-list_value-loop-i l = l.items ≡ map value_of (take l.i (items_of (form (part l.doc l.id))))

abbrev pub invariant-object_value-loop-i : goal.invariant-object_value-loop-i
invariant-object_value-loop-i l = l.members ≡ map member_row (take l.i (entries_of (form (part l.doc l.id))))
