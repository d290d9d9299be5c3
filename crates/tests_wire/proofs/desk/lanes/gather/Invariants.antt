use Rattle.std.proofs.Common.{◌≡◌, ℕ, ◌+◌, ◌<◌, ◌≤◌, Option, MatchOption, length, get_or}
use mathlib.Core.List.{IsPrefix}
use Rattle.turn_desk.specs.Calls.{SeatFacts}
use Rattle.tests_wire.specs.declared.desk.Counted.{Counted}
use Rattle.tests_wire.proofs.desk.lanes.gather.Given as goal

abbrev pub invariant-loop-i : goal.invariant-loop-i
invariant-loop-i l = record {
  desk : l.seat.desk ≡ l.fn.seat.desk;
  seats : l.seat.seats ≡ l.fn.seat.seats;
  seen : IsPrefix l.fn.seat.seen l.seat.seen;
  behind : (k : ℕ) (d : Option (SeatFacts Counted ℕ)) → k < l.i → MatchOption (get_or l.fn.lanes k d) ⊥ (λ s. IsPrefix s.seen l.seat.seen);
  count : length l.seat.ended + length l.seat.spare ≡ l.i;
  ahead : (k : ℕ) (d : Option (SeatFacts Counted ℕ)) → l.i ≤ k → get_or l.lanes k d ≡ get_or l.fn.lanes k d;
}
