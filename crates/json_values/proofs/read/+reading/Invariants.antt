use Rattle.std.proofs.Common.{◌≡◌, ◌+◌, ◌*◌, length, map, take}
use Rattle.json_subset.specs.Grammar.{depth}
use Rattle.json_subset.specs.Nodes.{member_at, AllBelow, AllValuesBelow}
use Rattle.json_subset.specs.Documents.{part, form}
use Rattle.json_values.specs.Parts.{items_of, entries_of}
use Rattle.json_values.specs.Values.{AreSound, IsIndexed, Mirror, Extends, source_of}
use Rattle.json_values.proofs.read.+reading.Given as goal

abbrev pub decreases-read_part : goal.decreases-read_part
decreases-read_part l = 3 * depth (part l.doc.now l.id) + 2

abbrev pub decreases-read_items : goal.decreases-read_items
decreases-read_items l = 3 * depth (part l.doc.now l.id) + 1

abbrev pub decreases-read_members : goal.decreases-read_members
decreases-read_members l = 3 * depth (part l.doc.now l.id) + 1

abbrev pub decreases-read_item : goal.decreases-read_item
decreases-read_item l = 3 * depth (part l.doc.now l.id)

abbrev pub decreases-read_member : goal.decreases-read_member
decreases-read_member l = 3 * depth (part l.doc.now l.id)

abbrev pub invariant-read_items-loop-i : goal.invariant-read_items-loop-i
invariant-read_items-loop-i l = record {
  sound : AreSound l.values.items;
  mirror : Mirror l.doc l.values.items;
  extends : Extends l.fn.values.items l.values.items;
  below : AllBelow (length l.values.items) l.ids.items;
  so_far : map (source_of l.doc l.values.items) l.ids.items ≡ take l.i (items_of (form (part l.doc l.id)));
}

abbrev pub invariant-read_members-loop-i : goal.invariant-read_members-loop-i
invariant-read_members-loop-i l = record {
  sound : AreSound l.values.items;
  mirror : Mirror l.doc l.values.items;
  extends : Extends l.fn.values.items l.values.items;
  below : AllValuesBelow (length l.values.items) l.members.list.items;
  indexed : IsIndexed l.members.list.items l.members.index;
  so_far : map (member_at (source_of l.doc l.values.items)) l.members.list.items ≡ take l.i (entries_of (form (part l.doc l.id)));
}
