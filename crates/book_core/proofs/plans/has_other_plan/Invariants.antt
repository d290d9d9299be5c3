use Rattle.std.proofs.Common.{◌≡◌, drop}
use Rattle.std.specs.List.{list_any}
use Rattle.book_rules.specs.PlanCommands.{is_other_plan}
use Rattle.book_core.proofs.plans.has_other_plan.Given as goal

-- whether there is one is whether the rest has one
abbrev pub invariant-loop-i : goal.invariant-loop-i
invariant-loop-i l =
    list_any (is_other_plan l.tables.lists l.plan l.stages l.key) l.tables.lists.plans
    ≡ list_any (is_other_plan l.tables.lists l.plan l.stages l.key) (drop l.i l.tables.lists.plans)
