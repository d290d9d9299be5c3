use Rattle.book_rules.specs.Good.{takes_meta}
use Rattle.book_opening.proofs.Walks.{IsWalked}
use Rattle.book_opening.proofs.metas.test_metas.Given as goal

-- the rows so far are taken
abbrev pub invariant-loop-i : goal.invariant-loop-i
invariant-loop-i l = IsWalked takes_meta l.rows l.i
