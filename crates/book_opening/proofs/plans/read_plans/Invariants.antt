use Rattle.std.proofs.Common.{◌≡◌, map, take}
use Rattle.book_rules.specs.PlanStages.{stages_of}
use Rattle.book_opening.proofs.plans.read_plans.Given as goal

-- the stages of the rows so far
abbrev pub invariant-loop-row : goal.invariant-loop-row
invariant-loop-row l = l.plans.items ≡ map stages_of (take l.row-index l.rows)
