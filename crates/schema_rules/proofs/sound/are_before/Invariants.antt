use Rattle.std.proofs.Common.{length}
use Rattle.schema_rules.specs.Views.{AllBefore}
use Rattle.schema_rules.proofs.sound.are_before.Given as goal

abbrev pub invariant-loop-ids : goal.invariant-loop-ids
invariant-loop-ids l = record {
  so_far : AllBefore l.nodes l.rank l.ids → AllBefore l.nodes l.rank l.fn.ids;
}

abbrev pub decreases-loop-ids : goal.decreases-loop-ids
decreases-loop-ids l = length l.ids
