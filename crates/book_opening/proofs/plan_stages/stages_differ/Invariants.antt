use Rattle.std.proofs.Common.{◌≡◌, drop}
use Rattle.book_rules.specs.PlanStages.{stages_differ}
use Rattle.book_opening.proofs.plan_stages.stages_differ.Given as goal

-- whether all stages differ is whether those of the rest do
abbrev pub invariant-loop-i : goal.invariant-loop-i
invariant-loop-i l = stages_differ l.stages ≡ stages_differ (drop l.i l.stages)
