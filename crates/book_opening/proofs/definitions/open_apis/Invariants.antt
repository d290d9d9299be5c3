use Rattle.book_rules.specs.Good.{takes_api}
use Rattle.book_rules.specs.Stored.{definition_of}
use Rattle.book_opening.proofs.Walks.{IsRead}
use Rattle.book_opening.proofs.definitions.open_apis.Given as goal

-- the rows so far are taken and read
abbrev pub invariant-loop-i : goal.invariant-loop-i
invariant-loop-i l = IsRead takes_api definition_of l.rows l.i l.definitions.items
