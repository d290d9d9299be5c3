use Rattle.std.proofs.Common.{List, ◌++◌, All, map, length}
use Rattle.backend_core.specs.Script.{HasReplyStatus, outcome_of}
use Rattle.backend_core.specs.declared.outcome.Outcome.{Outcome}
use Rattle.play_script.specs.Calls.{AreOutcomes, BreaksOutcomes}
use Rattle.play_script.proofs.outcomes.read_outcomes.Given as goal

-- what the fields tell that are left, behind what was told, is what all tell
abbrev pub invariant-loop-rest : goal.invariant-loop-rest
invariant-loop-rest l = record {
  are : (more : List Outcome) → AreOutcomes l.rest more → AreOutcomes l.fields (map outcome_of l.made.items ++ more);
  breaks : BreaksOutcomes l.rest → BreaksOutcomes l.fields;
  statuses : All HasReplyStatus l.made.items;
}

abbrev pub decreases-loop-rest : goal.decreases-loop-rest
decreases-loop-rest l = length l.rest
