use Rattle.std.proofs.Common.{◌≡◌, ◌≤◌, ◌+◌, List, [], ◌++◌, All, Some, length, map, vec_len, vec_capacity}
use mathlib.Core.List.{IsPrefix}
use Rattle.gate_session.specs.Posts.{Seat, PostFacts, IsBack, share_of}
use Rattle.outside_core.specs.Told.{told_of}
use Rattle.gate_session.proofs.seating.unseat_lanes.Given as goal

abbrev pub invariant-loop-posts : goal.invariant-loop-posts
invariant-loop-posts g l = record {
  done : List PostFacts;
  split : l.fn.posts.items ≡ done ++ l.posts.items;
  back : All (IsBack l.fn.desk) l.posts.items;
  lanes : map (λ lane. told_of (g.P.Port.coming lane.port) (g.P.Port.served lane.port) (g.B.Backend.sent lane.means.backend) (g.B.Backend.given lane.means.backend) (g.T.Clock.fixed lane.means.clock) (g.W.Words.fixed lane.means.words) (g.P.Port.closed lane.port) (g.P.Port.out lane.port) (g.P.Port.faults lane.port)) l.lanes.items ≡ map (λ (p : PostFacts). p.told) done;
  ends : map Some l.ends.items ≡ map (λ (p : PostFacts). p.end) done;
  seats : List Seat;
  seats_are : map Some seats ≡ map (λ (p : PostFacts). p.seat) done;
  joined : l.seat.ended ≡ map share_of seats;
  behind : All (λ (s : Seat). IsPrefix s.seen l.seat.seen) seats;
  same : (l.seat.desk ≡ l.fn.seat.desk) × (l.seat.seats ≡ l.fn.seat.seats) × (l.seat.number ≡ l.fn.seat.number) × (l.seat.base ≡ l.fn.seat.base) × (l.seat.mine ≡ l.fn.seat.mine) × (l.seat.spare ≡ []);
  lanes_number : vec_len l.lanes + vec_len l.posts ≡ length l.fn.posts.items;
  ends_number : vec_len l.ends + vec_len l.posts ≡ length l.fn.posts.items;
  lanes_room : vec_capacity l.fn.lanes ≤ vec_capacity l.lanes;
  ends_room : vec_capacity l.fn.ends ≤ vec_capacity l.ends;
}

abbrev pub decreases-loop-posts : goal.decreases-loop-posts
decreases-loop-posts g l = vec_len l.posts
