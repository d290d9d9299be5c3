use Rattle.std.proofs.Common.{◌≡◌, ◌≤◌, true, false}
use Rattle.gate_serve.proofs.Visiting.{Visited}
use Rattle.gate_serve.proofs.lane.serve_lane.Given as goal

abbrev pub invariant-loop : goal.invariant-loop
invariant-loop g l = record {
  unshut : g.P.Port.closed l.lane.port ≡ false;
  home : g.P.Port.out l.lane.port ≡ false;
  faults : g.P.Port.faults l.fn.lane.port ≤ g.P.Port.faults l.lane.port;
  clock : g.T.Clock.fixed l.lane.means.clock ≡ g.T.Clock.fixed l.fn.lane.means.clock;
  words : g.W.Words.fixed l.lane.means.words ≡ g.W.Words.fixed l.fn.lane.means.words;
  visited : Visited l.fn.seat l.seat (g.T.Clock.fixed l.fn.lane.means.clock) (g.W.Words.fixed l.fn.lane.means.words)
      (g.B.Backend.sent l.fn.lane.means.backend) (g.B.Backend.sent l.lane.means.backend) (g.B.Backend.given l.fn.lane.means.backend) (g.B.Backend.given l.lane.means.backend)
      (g.P.Port.coming l.fn.lane.port) (g.P.Port.coming l.lane.port) (g.P.Port.served l.fn.lane.port) (g.P.Port.served l.lane.port);
}
