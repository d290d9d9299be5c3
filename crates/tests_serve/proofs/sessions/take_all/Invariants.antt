use Rattle.gate_serve.specs.Serving.{seat_of}
use Rattle.turn_desk.specs.Calls.{IsSameSeat, HasItsOwn}
use Rattle.tests_serve.proofs.sessions.take_all.Given as goal

abbrev pub invariant-loop-event : goal.invariant-loop-event
invariant-loop-event g l = IsSameSeat l.fn.seat l.seat × HasItsOwn seat_of l.seat
