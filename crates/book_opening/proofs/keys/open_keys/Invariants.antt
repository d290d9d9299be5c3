use Rattle.std.proofs.Common.{take}
use Rattle.key_index.specs.Indexes.{Indexes, key_in}
use Rattle.book_rules.specs.Good.{takes_key}
use Rattle.book_opening.proofs.Walks.{IsWalked}
use Rattle.book_opening.proofs.Values.{HoldsValues}
use Rattle.book_opening.proofs.keys.open_keys.Given as goal

-- the rows so far are taken, the set holds their values, and the index has just these
abbrev pub invariant-loop-i : goal.invariant-loop-i
invariant-loop-i l = record { walked : IsWalked takes_key l.rows l.i; held : HoldsValues l.values (take l.i l.rows); keyed : Indexes (take l.i l.rows) (key_in l.index) }
