use Rattle.std.proofs.Common.{◌≡◌, ◌++◌, drop}
use Rattle.book_rules.specs.PlanStages.{each_stage_once}
use Rattle.book_core.proofs.plans.stages_once.Given as goal

-- what is made so far, and what the rest leaves, are what all leave
abbrev pub invariant-loop-i : goal.invariant-loop-i
invariant-loop-i l = l.made.items ++ each_stage_once (drop l.i l.stages) ≡ each_stage_once l.stages
