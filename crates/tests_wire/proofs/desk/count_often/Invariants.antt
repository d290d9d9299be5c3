use Rattle.turn_desk.specs.Calls.{IsSameSeat}
use Rattle.tests_wire.proofs.desk.count_often.Given as goal

abbrev pub invariant-loop : goal.invariant-loop
invariant-loop g l = IsSameSeat l.fn.seat l.seat
