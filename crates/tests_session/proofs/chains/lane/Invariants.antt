use Rattle.std.proofs.Common.{All}
use Rattle.gate_ports.specs.Docks.{IsUnwritten}
use Rattle.tests_session.proofs.chains.lane.Given as goal

abbrev pub invariant-loop-post : goal.invariant-loop-post
invariant-loop-post l = All IsUnwritten l.conns.items
