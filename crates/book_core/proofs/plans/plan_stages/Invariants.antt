use Rattle.std.proofs.Common.{◌≡◌, drop, find}
use Rattle.keeper_core.specs.Lists.{is_plan}
use Rattle.book_core.proofs.plans.plan_stages.Given as goal

-- what is found is found in the rest
abbrev pub invariant-loop-i : goal.invariant-loop-i
invariant-loop-i l = find (is_plan l.plan) l.tables.lists.plans ≡ find (is_plan l.plan) (drop l.i l.tables.lists.plans)
