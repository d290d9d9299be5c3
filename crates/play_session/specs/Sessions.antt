-- The book of a play: it opens with empty tables in memory, and it is told which calls of its keeper fail.
use Rattle.std.specs.Prelude.{◌≡◌, ℕ, List, [], Option}
use Rattle.book_rules.specs.History.{Base}
use Rattle.book_rules.specs.declared.events.Entry.{Entry}
use Rattle.book_rules.specs.declared.events.Limits.{Limits}
use Rattle.keeper_core.specs.Keeping.{told_by}
use Rattle.keeper_core.specs.Lists.{no_rows}
use Rattle.turn_desk.specs.Calls.{TableId, SeatFacts}
use Rattle.turn_desk.specs.Entries.{HasNoneFrom}
use Rattle.turn_desk.specs.OneSeat.{IsTheOne, seen_by}

-- what no event changes of it: the load was the keeper's first call
abbrev pub base_of : Limits → List ℕ → Base
base_of limits fails = record {
  opening = no_rows;
  limits = limits;
  start = told_by (record { lists = no_rows; staged = []; faults = 0; loads = 0; planned = record { fails = fails; calls = 1 } });
}

-- what a contract sees of it: what no event changes, and the history
pub record SessionFacts : Type 0 where
  pub base : Base
  pub history : List Entry

abbrev pub IsOfPlay : Base → Type 0
IsOfPlay base = (limits : Limits) × (fails : List ℕ) × (base ≡ base_of limits fails)

abbrev pub seat_of : Entry → ℕ
seat_of e = e.seat

-- It is behind a desk of one seat, which made each entry.
abbrev pub IsSeated : TableId → Base → Option (SeatFacts Entry Base) → Type 0
IsSeated desk base seat = IsTheOne desk base seat × HasNoneFrom seat_of 1 (seen_by seat)

-- a connection of a play: the bytes that are left to read, and those that were written
pub record ConnFacts : Type 0 where
  pub left : List ℕ
  pub written : List ℕ
