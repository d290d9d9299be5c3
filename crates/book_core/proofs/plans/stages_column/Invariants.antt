use Rattle.std.proofs.Common.{◌≡◌, take}
use Rattle.std.specs.String.{string_bytes}
use Rattle.book_rules.specs.PlanStages.{stages_column}
use Rattle.book_core.proofs.plans.stages_column.Given as goal

-- the column so far is that of the stages so far
abbrev pub invariant-loop-stage : goal.invariant-loop-stage
invariant-loop-stage l = string_bytes l.column ≡ stages_column (take l.stage-index l.stages)
