use Rattle.std.proofs.Common.{◌+◌, ◌*◌, map, drop}
use Rattle.json_subset.specs.Tree.{trees_of}
use Rattle.json_subset.specs.Nodes.{AllBelow, AllValuesBelow}
use Rattle.json_values.specs.Values.{plain_of}
use Rattle.json_distinct.specs.Distinct.{AreOnceNamed}
use Rattle.json_distinct.proofs.Named.{AreFirst}
use Rattle.json_distinct.proofs.once.+once.Given as goal

abbrev pub decreases-is_once_named : goal.decreases-is_once_named
decreases-is_once_named l = 3 * l.k + 2

abbrev pub decreases-is_once_named_form : goal.decreases-is_once_named_form
decreases-is_once_named_form l = 3 * l.k + 1

abbrev pub decreases-are_once_named : goal.decreases-are_once_named
decreases-are_once_named l = 3 * l.k

abbrev pub decreases-has_names_once : goal.decreases-has_names_once
decreases-has_names_once l = 3 * l.k

abbrev pub invariant-are_once_named-loop-id : goal.invariant-are_once_named-loop-id
invariant-are_once_named-loop-id l = record {
  below : AllBelow l.k (drop l.id-index l.ids);
  so_far : AreOnceNamed (trees_of (map (plain_of l.values) (drop l.id-index l.ids))) → AreOnceNamed (trees_of (map (plain_of l.values) l.ids));
}

abbrev pub invariant-has_names_once-loop-member : goal.invariant-has_names_once-loop-member
invariant-has_names_once-loop-member l = record {
  below : AllValuesBelow l.k (drop l.member-index l.members.list.items);
  so_far : AreFirst (plain_of l.values) l.members.list.items l.least (drop l.member-index l.members.list.items) → AreFirst (plain_of l.values) l.members.list.items 0 l.members.list.items;
}
