use Rattle.std.proofs.Common.{◌≡◌, length, drop, map}
use Rattle.json_subset.specs.Tree.{trees_of}
use Rattle.json_subset.specs.Nodes.{AllBelow}
use Rattle.json_values.specs.Values.{plain_of}
use Rattle.json_distinct.specs.Distinct as says
use Rattle.json_distinct.proofs.pairs.is_in.Given as goal

abbrev pub invariant-loop-id : goal.invariant-loop-id
invariant-loop-id l = record {
  below : AllBelow (length l.values) (drop l.id-index l.ids);
  so_far : says.is_in (plain_of l.values l.k) (trees_of (map (plain_of l.values) (drop l.id-index l.ids))) ≡ says.is_in (plain_of l.values l.k) (trees_of (map (plain_of l.values) l.ids));
}
