use Rattle.std.proofs.Common.{◌≡◌, ◌<◌, [], ◌∷◌, ◌++◌, All, length, length-append, append_assoc, map, Some, refl, sym, ap, subst, ◌∙◌, arith, if◌then◌else◌}
use Rattle.std.specs.Result.{is_ok}
use Rattle.std.proofs.lemmas.List.{map-append}
use mathlib.Core.List.{IsPrefix}
use Rattle.gate_ports.specs.declared.lane.Lane.{Lane}
use Rattle.gate_session.specs.Posts.{PostFacts, Seat, IsBack, share_of}
use Rattle.outside_core.specs.Told.{told_of}
use Rattle.gate_session.proofs.Seated.{seat_back, taken_front, mapped_both, prefix_far, all_behind, all_by, all_none, first_of_all, others_of_all}
use Rattle.gate_session.proofs.seating.unseat_lanes.Goals as goal

pub loop-posts-init : goal.loop-posts-init
loop-posts-init g c =
    let told = λ (lane : Lane g.row.P.Denot g.row.B.Denot g.row.T.Denot g.row.W.Denot g.row.G.Denot). told_of (g.P.Port.coming lane.port) (g.P.Port.served lane.port) (g.B.Backend.sent lane.means.backend) (g.B.Backend.given lane.means.backend) (g.T.Clock.fixed lane.means.clock) (g.W.Words.fixed lane.means.words) (g.P.Port.closed lane.port) (g.P.Port.out lane.port) (g.P.Port.faults lane.port) in
    record {
      done = [];
      split = refl;
      back = c.requires.back;
      lanes = ap (map told) c.requires.empty.0;
      ends = ap (map Some) c.requires.empty.1;
      seats = [];
      seats_are = refl;
      joined = c.requires.alone.0;
      behind = all_none (λ (s : Seat). IsPrefix s.seen c.args.seat.seen);
      same = (refl, refl, refl, refl, refl, c.requires.alone.1);
      lanes_number = omega (arith, ap length c.requires.empty.0, c.args.lanes.now.ok, c.args.posts.now.ok);
      ends_number = omega (arith, ap length c.requires.empty.1, c.args.ends.now.ok, c.args.posts.now.ok);
      lanes_room = omega arith;
      ends_room = omega arith;
    }

pub loop-posts-preserved : goal.loop-posts-preserved
loop-posts-preserved g c =
    let i = c.loop-posts.invariant in
    let told = λ (lane : Lane g.row.P.Denot g.row.B.Denot g.row.T.Denot g.row.W.Denot g.row.G.Denot). told_of (g.P.Port.coming lane.port) (g.P.Port.served lane.port) (g.B.Backend.sent lane.means.backend) (g.B.Backend.given lane.means.backend) (g.T.Clock.fixed lane.means.clock) (g.W.Words.fixed lane.means.words) (g.P.Port.closed lane.port) (g.P.Port.out lane.port) (g.P.Port.faults lane.port) in
    let p = c.remove.result in
    let rest = c.remove.new.self.items in
    let some : 0 < length c.loop-posts.posts.items = omega (arith, c.remove.ensures.len, c.loop-posts.posts.ok) in
    let front : c.loop-posts.posts.items ≡ p ∷ rest = taken_front c.loop-posts.posts.items rest p some c.remove.ensures.value c.remove.ensures.items in
    let all : All (IsBack c.args.desk.now) (p ∷ rest) = subst (All (IsBack c.args.desk.now)) front i.back in
    let own = c.in-Some-Some.own in
    let end = c.in-Some-Some.end in
    let lane = c.lane.inside.lane in
    let is_told : told lane ≡ p.told = ap (λ (q : PostFacts). q.told) c.lane.view_is in
    let is_seat : Some own ≡ p.seat = sym c.in-Some-Some.is-0 ∙ ap (λ (q : PostFacts). q.seat) c.lane.view_is in
    let is_end : Some end ≡ p.end = sym c.in-Some-Some.is-1 ∙ ap (λ (q : PostFacts). q.end) c.lane.view_is in
    let back = seat_back c.args.desk.now p own (first_of_all (IsBack c.args.desk.now) p rest all) (sym is_seat) in
    let j = c.join-seat.ensures in
    let lanes : c.push.new.self.items ≡ c.loop-posts.lanes.items ++ lane ∷ [] = c.push.ensures.items ∙ ap (λ r. if is_ok r then c.loop-posts.lanes.items ++ lane ∷ [] else c.loop-posts.lanes.items) c.unwrap.ensures in
    let ends : c.push-in-loop-posts.new.self.items ≡ c.loop-posts.ends.items ++ end ∷ [] = c.push-in-loop-posts.ensures.items ∙ ap (λ r. if is_ok r then c.loop-posts.ends.items ++ end ∷ [] else c.loop-posts.ends.items) c.unwrap-in-loop-posts.ensures in
    record {
      done = i.done ++ p ∷ [];
      split = i.split ∙ ap (λ l. i.done ++ l) front ∙ sym (append_assoc i.done (p ∷ []) rest);
      back = others_of_all (IsBack c.args.desk.now) p rest all;
      lanes = ap (map told) lanes ∙ mapped_both told (λ (q : PostFacts). q.told) c.loop-posts.lanes.items i.done lane p i.lanes is_told;
      ends = ap (map Some) ends ∙ mapped_both Some (λ (q : PostFacts). q.end) c.loop-posts.ends.items i.done end p i.ends is_end;
      seats = i.seats ++ own ∷ [];
      seats_are = mapped_both Some (λ (q : PostFacts). q.seat) i.seats i.done own p i.seats_are is_seat;
      joined = ap (λ s. s.ended) j.both ∙ ap (λ l. l ++ share_of own ∷ own.ended) i.joined ∙ ap (λ l. map share_of i.seats ++ share_of own ∷ l) back.1 ∙ sym (map-append share_of i.seats (own ∷ []));
      behind = all_behind (λ (s : Seat). IsPrefix s.seen c.join-seat.result.seen) i.seats own
          (all_by (λ (s : Seat). IsPrefix s.seen c.loop-posts.seat.seen) (λ (s : Seat). IsPrefix s.seen c.join-seat.result.seen) i.seats (λ s q. prefix_far s.seen c.loop-posts.seat.seen c.join-seat.result.seen q j.behind.0) i.behind)
          j.behind.1;
      same = (
        ap (λ s. s.desk) j.both ∙ i.same.0,
        ap (λ s. s.seats) j.both ∙ i.same.1,
        ap (λ s. s.number) j.both ∙ i.same.2,
        ap (λ s. s.base) j.both ∙ i.same.3,
        ap (λ s. s.mine) j.both ∙ i.same.4,
        ap (λ s. s.spare) j.both ∙ ap (λ l. l ++ own.spare) i.same.5 ∙ back.2,
      );
      lanes_number = omega (arith, i.lanes_number, ap length lanes, length-append c.loop-posts.lanes.items (lane ∷ []), c.push.new.self.ok, c.loop-posts.lanes.ok, c.remove.ensures.len);
      ends_number = omega (arith, i.ends_number, ap length ends, length-append c.loop-posts.ends.items (end ∷ []), c.push-in-loop-posts.new.self.ok, c.loop-posts.ends.ok, c.remove.ensures.len);
      lanes_room = omega (arith, c.push.ensures.capacity, i.lanes_room);
      ends_room = omega (arith, c.push-in-loop-posts.ensures.capacity, i.ends_room);
    }
