use Rattle.std.proofs.Common.{◌≡◌, ℕ, ◌+◌, ◌<◌, Option, length, get_or}
use Rattle.turn_desk.specs.Calls.{SeatFacts}
use Rattle.tests_wire.specs.declared.desk.Counted.{Counted}
use Rattle.turn_desk.proofs.Lanes.{IsPlain}
use Rattle.tests_wire.proofs.desk.lanes.deal.Given as goal

abbrev pub invariant-loop-i : goal.invariant-loop-i
invariant-loop-i l = record {
  desk : l.seat.desk ≡ l.fn.seat.desk;
  seats : l.seat.seats ≡ l.fn.seat.seats;
  ended : l.seat.ended ≡ l.fn.seat.ended;
  left : length l.seat.spare + l.i ≡ length l.fn.lanes;
  dealt : (k : ℕ) (d : Option (SeatFacts Counted ℕ)) → k < l.i → IsPlain l.fn.seat.desk (get_or l.lanes k d);
}
