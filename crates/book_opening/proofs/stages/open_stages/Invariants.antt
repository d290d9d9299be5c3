use Rattle.book_rules.specs.Good.{takes_stage}
use Rattle.book_opening.specs.Ready.{standing_of}
use Rattle.book_opening.proofs.Walks.{IsRead}
use Rattle.book_opening.proofs.stages.open_stages.Given as goal

-- the rows so far are taken and read
abbrev pub invariant-loop-i : goal.invariant-loop-i
invariant-loop-i l = IsRead (takes_stage l.tables.lists) standing_of l.tables.lists.stages l.i l.stages.items
