use Rattle.std.proofs.Common.{◌≡◌, ◌+◌, ◌*◌, length, map, drop}
use Rattle.json_subset.specs.Tree.{trees_of, members_of}
use Rattle.json_subset.specs.Nodes.{member_at, AllBelow, AllValuesBelow}
use Rattle.json_values.specs.Same as says
use Rattle.json_values.specs.Values.{plain_of}
use Rattle.json_values.proofs.compare.+same.Given as goal

abbrev pub decreases-same_value : goal.decreases-same_value
decreases-same_value l = 4 * l.i + 2

abbrev pub decreases-same_form : goal.decreases-same_form
decreases-same_form l = 4 * l.i + 1

abbrev pub decreases-same_items : goal.decreases-same_items
decreases-same_items l = 4 * l.i

abbrev pub decreases-all_in : goal.decreases-all_in
decreases-all_in l = 4 * l.i

abbrev pub decreases-same_member : goal.decreases-same_member
decreases-same_member l = 4 * l.x.now.1 + 3

abbrev pub invariant-same_items-loop-xs : goal.invariant-same_items-loop-xs
invariant-same_items-loop-xs l = record {
  below_a : AllBelow l.i l.xs;
  below_b : AllBelow l.j l.ys;
  so_far : says.same_items (trees_of (map (plain_of l.a) l.xs)) (trees_of (map (plain_of l.b) l.ys)) ≡ says.same_items (trees_of (map (plain_of l.a) l.fn.xs)) (trees_of (map (plain_of l.b) l.fn.ys));
}

abbrev pub invariant-all_in-loop-x : goal.invariant-all_in-loop-x
invariant-all_in-loop-x l = record {
  below_a : AllValuesBelow l.i (drop l.x-index l.xs);
  so_far : says.all_in (members_of (map (member_at (plain_of l.a)) (drop l.x-index l.xs))) (members_of (map (member_at (plain_of l.b)) l.ys.list.items)) ≡ says.all_in (members_of (map (member_at (plain_of l.a)) l.xs)) (members_of (map (member_at (plain_of l.b)) l.ys.list.items));
}

abbrev pub decreases-same_items-loop-xs : goal.decreases-same_items-loop-xs
decreases-same_items-loop-xs l = length l.xs
