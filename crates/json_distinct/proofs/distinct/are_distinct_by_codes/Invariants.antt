use Rattle.std.proofs.Common.{◌≡◌, ◌≤◌, true, length, map, drop}
use Rattle.json_subset.specs.Tree.{trees_of}
use Rattle.json_values.specs.Values.{plain_of}
use Rattle.json_distinct.specs.Distinct.{are_distinct}
use Rattle.json_distinct.specs.Seeing.{AreSeen, AreSeenBelow}
use Rattle.json_distinct.proofs.distinct.are_distinct_by_codes.Given as goal

abbrev pub decreases-loop-left : goal.decreases-loop-left
decreases-loop-left l = l.left

abbrev pub invariant-loop-left : goal.invariant-loop-left
invariant-loop-left l = record {
  left : l.left ≤ length l.ids;
  seen : AreSeen (plain_of l.values) l.seen.by_code l.seen.others.items (drop l.left l.ids);
  below : AreSeenBelow (length l.values) l.seen.by_code l.seen.others.items;
  so_far : are_distinct (trees_of (map (plain_of l.values) (drop l.left l.ids))) ≡ true;
}
