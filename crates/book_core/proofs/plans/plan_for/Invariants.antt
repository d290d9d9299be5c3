use Rattle.std.proofs.Common.{◌≡◌, drop, find}
use Rattle.book_rules.specs.Admissions.{allows}
use Rattle.book_core.proofs.plans.plan_for.Given as goal

-- what is found is found in the rest
abbrev pub invariant-loop-i : goal.invariant-loop-i
invariant-loop-i l = find (allows l.tables.lists (l.stage.0.now, l.stage.1.now) l.key) l.tables.lists.plans ≡ find (allows l.tables.lists (l.stage.0.now, l.stage.1.now) l.key) (drop l.i l.tables.lists.plans)
