use Rattle.std.proofs.Common.{length}
use Rattle.json_subset.specs.Nodes.{AllValuesBelow}
use Rattle.schema_rules.proofs.sound.are_named_below.Given as goal

abbrev pub invariant-loop-parts : goal.invariant-loop-parts
invariant-loop-parts l = record {
  so_far : AllValuesBelow (length l.nodes) l.parts → AllValuesBelow (length l.nodes) l.fn.parts;
}

abbrev pub decreases-loop-parts : goal.decreases-loop-parts
decreases-loop-parts l = length l.parts
