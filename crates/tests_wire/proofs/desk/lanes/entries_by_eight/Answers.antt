use Rattle.std.proofs.Common.{arith}
use Rattle.turn_desk.proofs.Lanes.{served_plain}
use Rattle.tests_wire.proofs.desk.lanes.entries_by_eight.Goals as goal

pub gather-seat-requires-clause-done : goal.gather-seat-requires-clause-done
gather-seat-requires-clause-done g c = λ k d lt. served_plain _ _ _ (c.deal-seat.ensures.dealt k d (omega arith)) (c.serve_lanes.ensures k d (omega arith))
