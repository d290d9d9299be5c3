use Rattle.std.proofs.Common.{◌≡◌, false, take}
use Rattle.book_rules.specs.Good.{joined_already}
use Rattle.book_opening.proofs.joins.joined_already.Given as goal

-- none of the rows so far is one that refuses
abbrev pub invariant-loop-other : goal.invariant-loop-other
invariant-loop-other l = joined_already l.tables.lists (take l.other-index l.before) l.row ≡ false
