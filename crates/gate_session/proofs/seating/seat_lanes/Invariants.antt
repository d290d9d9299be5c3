use Rattle.std.proofs.Common.{◌≡◌, ◌≤◌, ◌+◌, List, ◌++◌, length, map, IfSome, vec_len, vec_capacity}
use Rattle.std.specs.List.{range_with_len}
use Rattle.gate_session.specs.Posts.{AreSeated}
use Rattle.outside_core.specs.Told.{told_of}
use Rattle.outside_core.specs.Told.{LaneTold}
use Rattle.gate_session.proofs.seating.seat_lanes.Given as goal

abbrev pub invariant-loop-seat : goal.invariant-loop-seat
invariant-loop-seat g l = record {
  done : List LaneTold;
  told : map (λ lane. told_of (g.P.Port.coming lane.port) (g.P.Port.served lane.port) (g.B.Backend.sent lane.means.backend) (g.B.Backend.given lane.means.backend) (g.T.Clock.fixed lane.means.clock) (g.W.Words.fixed lane.means.words) (g.P.Port.closed lane.port) (g.P.Port.out lane.port) (g.P.Port.faults lane.port)) l.fn.lanes.items
      ≡ done ++ map (λ lane. told_of (g.P.Port.coming lane.port) (g.P.Port.served lane.port) (g.B.Backend.sent lane.means.backend) (g.B.Backend.given lane.means.backend) (g.T.Clock.fixed lane.means.clock) (g.W.Words.fixed lane.means.words) (g.P.Port.closed lane.port) (g.P.Port.out lane.port) (g.P.Port.faults lane.port)) l.lanes.items;
  seated : IfSome l.fn.seat.base (λ base. AreSeated l.fn.desk base 1 done l.posts.items);
  seat : l.seat ≡ record l.fn.seat { spare = range_with_len (1 + length l.posts.items) (length l.lanes.items) };
  number : length l.posts.items + length l.lanes.items ≡ length l.fn.lanes.items;
  room : vec_capacity l.fn.posts ≤ vec_capacity l.posts;
  lanes_room : vec_capacity l.lanes ≡ vec_capacity l.fn.lanes;
}

abbrev pub decreases-loop-seat : goal.decreases-loop-seat
decreases-loop-seat g l = vec_len l.lanes
