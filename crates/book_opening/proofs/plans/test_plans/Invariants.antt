use Rattle.book_rules.specs.Good.{takes_plan}
use Rattle.book_opening.proofs.Walks.{IsWalked}
use Rattle.book_opening.proofs.plans.test_plans.Given as goal

-- the rows so far are taken
abbrev pub invariant-loop-i : goal.invariant-loop-i
invariant-loop-i l = IsWalked (takes_plan l.tables.lists) l.tables.lists.plans l.i
