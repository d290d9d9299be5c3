use Rattle.std.proofs.Common.{length}
use Rattle.schema_rules.specs.Made.{AllWellMade}
use Rattle.schema_rules.specs.Views.{AreSoundRules}
use Rattle.schema_rules.proofs.sound.are_sound_rules.Given as goal

abbrev pub invariant-loop-rules : goal.invariant-loop-rules
invariant-loop-rules l = record {
  made : AllWellMade l.rules;
  so_far : AreSoundRules l.nodes l.targets l.rank l.rules → AreSoundRules l.nodes l.targets l.rank l.fn.rules;
}

abbrev pub decreases-loop-rules : goal.decreases-loop-rules
decreases-loop-rules l = length l.rules
