use Rattle.book_rules.specs.Good.{takes_join}
use Rattle.book_opening.proofs.Walks.{IsWalked}
use Rattle.book_opening.proofs.joins.test_joins.Given as goal

-- the rows so far are taken
abbrev pub invariant-loop-i : goal.invariant-loop-i
invariant-loop-i l = IsWalked (takes_join l.tables.lists) l.tables.lists.joins l.i
