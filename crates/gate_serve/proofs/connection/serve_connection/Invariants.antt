use Rattle.std.proofs.Common.{◌≡◌, ◌≤◌, ◌-◌, ◌++◌, None, true, false}
use Rattle.gate_ports.specs.Facts.{ConnTold}
use Rattle.gate_serve.proofs.Running.{Running}
use Rattle.gate_serve.proofs.connection.serve_connection.Given as goal

abbrev pub invariant-loop-incoming : goal.invariant-loop-incoming
invariant-loop-incoming g l = record {
  low : 1 ≤ l.number;
  high : l.number ≤ 1000;
  fault : l.rest.fault ≡ None;
  clock : g.T.Clock.fixed l.means.clock ≡ g.T.Clock.fixed l.fn.means.clock;
  words : g.W.Words.fixed l.means.words ≡ g.W.Words.fixed l.fn.means.words;
  reads : g.C.Source.faults l.fn.conn ≤ g.C.Source.faults l.conn;
  writes : g.C.Sink.faults l.fn.conn ≤ g.C.Sink.faults l.conn;
  running : Running l.fn.seat l.seat (g.T.Clock.fixed l.fn.means.clock) (g.W.Words.fixed l.fn.means.words) (g.C.Source.left l.fn.conn) (g.C.Sink.written l.fn.conn)
      (record { sent = g.B.Backend.sent l.fn.means.backend; given = g.B.Backend.given l.fn.means.backend; to_come = g.B.Backend.to_come l.fn.means.backend })
      (record { sent = g.B.Backend.sent l.means.backend; given = g.B.Backend.given l.means.backend; to_come = g.B.Backend.to_come l.means.backend }) l.rest.bytes (g.C.Source.left l.conn) (g.C.Sink.written l.conn) l.number;
}

abbrev pub decreases-loop-incoming : goal.decreases-loop-incoming
decreases-loop-incoming g l = 1000 - l.number
