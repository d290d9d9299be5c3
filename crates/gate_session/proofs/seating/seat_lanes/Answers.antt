use Rattle.std.proofs.Common.{◌≡◌, ℕ, suc, ◌+◌, ◌<◌, List, [], ◌∷◌, ◌++◌, length, length-append, Some, None, IfSome, refl, sym, ap, subst, ◌∙◌, arith, if◌then◌else◌}
use Rattle.std.specs.List.{range_with_len}
use Rattle.std.specs.Result.{is_ok}
use Rattle.gate_ports.specs.declared.lane.Lane.{Lane}
use Rattle.gate_session.specs.Posts.{AreSeated, PostFacts, Seat}
use Rattle.outside_core.specs.Told.{told_of}
use Rattle.gate_session.proofs.Seated.{taken_front, mapped_more, gives_first, seated_next, seated_none}
use Rattle.gate_session.proofs.seating.seat_lanes.Goals as goal

pub loop-seat-init : goal.loop-seat-init
loop-seat-init g c = record {
  done = [];
  told = refl;
  seated = seated_none c.args.desk.now c.args.seat.base c.args.posts.now.items c.requires.empty;
  seat = ap (λ (s : List ℕ). record c.args.seat { spare = s }) (c.requires.spare ∙ ap (λ (l : List PostFacts). range_with_len (1 + length l) (length c.args.lanes.now.items)) (sym c.requires.empty));
  number = omega (arith, ap length c.requires.empty);
  room = omega arith;
  lanes_room = refl;
}

pub loop-seat-preserved : goal.loop-seat-preserved
loop-seat-preserved g c =
    let i = c.loop-seat.invariant in
    let told = λ (lane : Lane g.row.P.Denot g.row.B.Denot g.row.T.Denot g.row.W.Denot g.row.G.Denot). told_of (g.P.Port.coming lane.port) (g.P.Port.served lane.port) (g.B.Backend.sent lane.means.backend) (g.B.Backend.given lane.means.backend) (g.T.Clock.fixed lane.means.clock) (g.W.Words.fixed lane.means.words) (g.P.Port.closed lane.port) (g.P.Port.out lane.port) (g.P.Port.faults lane.port) in
    let left = length c.remove.new.self.items in
    let some : 0 < length c.loop-seat.lanes.items = omega (arith, c.remove.ensures.len, c.loop-seat.lanes.ok) in
    let front : c.loop-seat.lanes.items ≡ c.remove.result ∷ c.remove.new.self.items = taken_front c.loop-seat.lanes.items c.remove.new.self.items c.remove.result some c.remove.ensures.value c.remove.ensures.items in
    let many : length c.loop-seat.lanes.items ≡ suc left = ap length front in
    let post : PostFacts = record { told = told c.remove.result; seat = Some c.split-rest.result.1; end = None } in
    let posts : c.push.new.self.items ≡ c.loop-seat.posts.items ++ post ∷ [] = c.push.ensures.items ∙ ap (λ r. if is_ok r then c.loop-seat.posts.items ++ post ∷ [] else c.loop-seat.posts.items) c.unwrap.ensures in
    let more : length c.push.new.self.items ≡ length c.loop-seat.posts.items + 1 = ap length posts ∙ length-append c.loop-seat.posts.items (post ∷ []) in
    let gives = gives_first c.args.seat c.loop-seat.seat (1 + length c.loop-seat.posts.items) (length c.loop-seat.lanes.items) left i.seat many in
    let first : 1 + length c.loop-seat.posts.items + 1 ≡ 1 + length c.push.new.self.items = omega (arith, more) in
    record {
      done = i.done ++ told c.remove.result ∷ [];
      told = mapped_more told c.args.lanes.now.items c.loop-seat.lanes.items c.remove.new.self.items c.remove.result i.done i.told front;
      seated = subst (λ l. IfSome c.args.seat.base (λ base. AreSeated c.args.desk.now base 1 (i.done ++ told c.remove.result ∷ []) l)) (sym posts)
          (seated_next c.args.desk.now c.args.seat.base i.done c.loop-seat.posts.items (told c.remove.result) post c.args.seat c.loop-seat.seat c.split-rest.result.1 (length c.loop-seat.lanes.items) left
          i.seated refl refl c.requires.desk refl c.requires.fresh.0 c.requires.fresh.1 i.seat many c.split-rest.ensures.new);
      seat = c.split-rest.ensures.left ∙ ap (λ (s : List ℕ). record c.loop-seat.seat { spare = s }) gives.2 ∙ ap (λ (s : Seat). record s { spare = range_with_len (1 + length c.loop-seat.posts.items + 1) left }) i.seat
          ∙ ap (λ n. record c.args.seat { spare = range_with_len n left }) first;
      number = omega (arith, i.number, more, many);
      room = omega (arith, c.push.ensures.capacity, i.room);
      lanes_room = c.remove.ensures.capacity ∙ i.lanes_room;
    }
