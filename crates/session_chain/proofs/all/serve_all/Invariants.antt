use Rattle.std.proofs.Common.{◌≡◌, ◌≤◌, List, [], All, length, map}
use Rattle.gate_session.specs.Posts.{IsOpen}
use Rattle.outside_core.specs.Told.{told_of}
use Rattle.session_chain.specs.Chains.{HeldSession}
use Rattle.session_chain.proofs.Going.{Going}
use Rattle.session_chain.proofs.all.serve_all.Given as goal

abbrev pub invariant-loop : goal.invariant-loop
invariant-loop g l = record {
  full : List HeldSession;
  number : length l.lanes.items ≡ length l.fn.lanes.items;
  fresh : l.book.history ≡ [];
  are_open : All IsOpen (map (λ lane. told_of (g.P.Port.coming lane.port) (g.P.Port.served lane.port) (g.B.Backend.sent lane.means.backend) (g.B.Backend.given lane.means.backend) (g.T.Clock.fixed lane.means.clock) (g.W.Words.fixed lane.means.words) (g.P.Port.closed lane.port) (g.P.Port.out lane.port) (g.P.Port.faults lane.port)) l.lanes.items);
  going : Going l.fn.limits l.fn.book.base
      (map (λ lane. told_of (g.P.Port.coming lane.port) (g.P.Port.served lane.port) (g.B.Backend.sent lane.means.backend) (g.B.Backend.given lane.means.backend) (g.T.Clock.fixed lane.means.clock) (g.W.Words.fixed lane.means.words) (g.P.Port.closed lane.port) (g.P.Port.out lane.port) (g.P.Port.faults lane.port)) l.fn.lanes.items)
      (g.A.Archive.sessions l.fn.archive) (g.S.Sink.written l.fn.output) full l.book.base
      (map (λ lane. told_of (g.P.Port.coming lane.port) (g.P.Port.served lane.port) (g.B.Backend.sent lane.means.backend) (g.B.Backend.given lane.means.backend) (g.T.Clock.fixed lane.means.clock) (g.W.Words.fixed lane.means.words) (g.P.Port.closed lane.port) (g.P.Port.out lane.port) (g.P.Port.faults lane.port)) l.lanes.items)
      (g.A.Archive.sessions l.archive) (g.S.Sink.written l.output);
  beside : g.A.Archive.beside l.archive ≡ g.A.Archive.beside l.fn.archive;
  faults : g.S.Sink.faults l.fn.output ≤ g.S.Sink.faults l.output;
}
