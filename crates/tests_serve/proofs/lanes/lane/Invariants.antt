use Rattle.std.proofs.Common.{All}
use Rattle.gate_ports.specs.Docks.{IsUnwritten}
use Rattle.tests_serve.proofs.lanes.lane.Given as goal

abbrev pub invariant-loop-bytes : goal.invariant-loop-bytes
invariant-loop-bytes l = All IsUnwritten l.conns.items
