use Rattle.std.proofs.Common.{◌≡◌, length, map}
use Rattle.json_subset.specs.Tree.{trees_of}
use Rattle.json_subset.specs.Nodes.{AllBelow}
use Rattle.json_values.specs.Values.{plain_of}
use Rattle.json_distinct.specs.Distinct as says
use Rattle.json_distinct.proofs.pairs.are_distinct_by_pairs.Given as goal

abbrev pub decreases-loop-ids : goal.decreases-loop-ids
decreases-loop-ids l = length l.ids

abbrev pub invariant-loop-ids : goal.invariant-loop-ids
invariant-loop-ids l = record {
  below : AllBelow (length l.values) l.ids;
  so_far : says.are_distinct (trees_of (map (plain_of l.values) l.ids)) ≡ says.are_distinct (trees_of (map (plain_of l.values) l.fn.ids));
}
