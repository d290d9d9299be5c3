use Rattle.std.proofs.Common.{length}
use Rattle.json_subset.specs.Nodes.{AllBelow}
use Rattle.schema_rules.proofs.sound.are_below.Given as goal

abbrev pub invariant-loop-ids : goal.invariant-loop-ids
invariant-loop-ids l = record {
  so_far : AllBelow (length l.nodes) l.ids → AllBelow (length l.nodes) l.fn.ids;
}

abbrev pub decreases-loop-ids : goal.decreases-loop-ids
decreases-loop-ids l = length l.ids
