use Rattle.std.proofs.Common.{◌≡◌, All, length, map, drop, get_or, ℕ, ◌<◌, List, Some, sym, ap, subst, ◌∙◌, arith}
use Rattle.std.proofs.lemmas.List.{length-map}
use Rattle.std.specs.List.{range_with_len}
use Rattle.gate_ports.specs.declared.lane.Lane.{Lane}
use Rattle.gate_session.specs.Posts.{AreSeated, EachTo, IsBack, IsReady, PostFacts, WasServed, share_of}
use Rattle.outside_core.specs.Told.{told_of}
use Rattle.gate_session.specs.Sessions.{Session}
use Rattle.gate_session.proofs.Histories.{based, some_same}
use Rattle.gate_session.proofs.Seated.{are_ready, are_back, as_long, each_at, session_of, took_all}
use Rattle.gate_session.proofs.session.serve_session.Goals as goal

pub seat_lanes-seat-requires-clause-spare : goal.seat_lanes-seat-requires-clause-spare
seat_lanes-seat-requires-clause-spare g c = ap (λ k. k.spare) c.in-Ok-start.ensures.first ∙ ap (range_with_len 1) (omega (arith, c.len-number.ensures, c.args.lanes.now.ok, c.requires.number.1))

pub serve_posts-requires-after_bounds : goal.serve_posts-requires-after_bounds
serve_posts-requires-after_bounds g c κs within =
    let desk = c.in-Ok-start.started.0 in
    let base = c.args.book.base in
    let told : Lane g.row.P.Denot g.row.B.Denot g.row.T.Denot g.row.W.Denot g.row.G.Denot → _ = λ lane. told_of (g.P.Port.coming lane.port) (g.P.Port.served lane.port) (g.B.Backend.sent lane.means.backend) (g.B.Backend.given lane.means.backend) (g.T.Clock.fixed lane.means.clock) (g.W.Words.fixed lane.means.words) (g.P.Port.closed lane.port) (g.P.Port.out lane.port) (g.P.Port.faults lane.port) in
    let all = map told c.args.lanes.now.items in
    let posts = c.seat_lanes-seat.new.posts.items in
    let seated : AreSeated desk base 1 all posts = based base c.in-Ok-start.started.1.base (λ b. AreSeated desk b 1 all posts) (ap (λ k. k.base) c.in-Ok-start.ensures.first) c.seat_lanes-seat.ensures.seated in
    subst (All (IsReady desk)) (sym c.deref_mut.ensures.value) (are_ready desk base 1 all posts seated c.requires.are_open)

pub unseat_lanes-seat-requires-clause-back : goal.unseat_lanes-seat-requires-clause-back
unseat_lanes-seat-requires-clause-back g c =
    let desk = c.in-Ok-start.started.0 in
    let base = c.args.book.base in
    let told : Lane g.row.P.Denot g.row.B.Denot g.row.T.Denot g.row.W.Denot g.row.G.Denot → _ = λ lane. told_of (g.P.Port.coming lane.port) (g.P.Port.served lane.port) (g.B.Backend.sent lane.means.backend) (g.B.Backend.given lane.means.backend) (g.T.Clock.fixed lane.means.clock) (g.W.Words.fixed lane.means.words) (g.P.Port.closed lane.port) (g.P.Port.out lane.port) (g.P.Port.faults lane.port) in
    let all = map told c.args.lanes.now.items in
    let posts = c.seat_lanes-seat.new.posts.items in
    let served = c.serve_posts.new.posts in
    let seated : AreSeated desk base 1 all posts = based base c.in-Ok-start.started.1.base (λ b. AreSeated desk b 1 all posts) (ap (λ k. k.base) c.in-Ok-start.ensures.first) c.seat_lanes-seat.ensures.seated in
    let long : length served ≡ length posts = c.serve_posts.auto.posts ∙ ap length c.deref_mut.ensures.value in
    let each : EachTo WasServed posts served = each_at WasServed posts served long (subst (λ (l : List PostFacts). (k : ℕ) (d : PostFacts) → k < length l → WasServed (get_or l k d) (get_or served k d)) c.deref_mut.ensures.value c.serve_posts.ensures) in
    let whole = took_all served (drop (length served) posts) c.seat_lanes-seat.new.posts.len (long ∙ sym c.seat_lanes-seat.new.posts.ok.0) in
    subst (All (IsBack desk)) (sym whole) (are_back desk base 1 all posts served seated each)

pub close-requires-clause-whole : goal.close-requires-clause-whole
close-requires-clause-whole g c =
    let u = c.unseat_lanes-seat.ensures in
    let posts = c.seat_lanes-seat.new.posts.items in
    let served = c.serve_posts.new.posts in
    let long : length served ≡ length posts = c.serve_posts.auto.posts ∙ ap length c.deref_mut.ensures.value in
    let whole = took_all served (drop (length served) posts) c.seat_lanes-seat.new.posts.len (long ∙ sym c.seat_lanes-seat.new.posts.ok.0) in
    let seats : length u.joined.0 ≡ length served = as_long Some (λ (p : PostFacts). p.seat) u.joined.0 served (u.joined.1 ∙ ap (map (λ (p : PostFacts). p.seat)) whole) in
    let ended : length c.unseat_lanes-seat.result.ended ≡ length u.joined.0 = ap length u.joined.2 ∙ length-map u.joined.0 share_of in
    let sized = u.same.1 ∙ ap (λ k. k.seats) c.seat_lanes-seat.ensures.left ∙ ap (λ k. k.seats) c.in-Ok-start.ensures.first in
    omega (arith, ended, seats, long, c.seat_lanes-seat.ensures.as_many, ap length u.same.5, sized, c.len-number.ensures, c.args.lanes.now.ok.0, c.requires.number.1)

pub returns-clause-session : goal.returns-clause-session
returns-clause-session g c =
    let desk = c.in-Ok-start.started.0 in
    let base = c.args.book.base in
    let told : Lane g.row.P.Denot g.row.B.Denot g.row.T.Denot g.row.W.Denot g.row.G.Denot → _ = λ lane. told_of (g.P.Port.coming lane.port) (g.P.Port.served lane.port) (g.B.Backend.sent lane.means.backend) (g.B.Backend.given lane.means.backend) (g.T.Clock.fixed lane.means.clock) (g.W.Words.fixed lane.means.words) (g.P.Port.closed lane.port) (g.P.Port.out lane.port) (g.P.Port.faults lane.port) in
    let all = map told c.args.lanes.now.items in
    let posts = c.seat_lanes-seat.new.posts.items in
    let served = c.serve_posts.new.posts in
    let seat = c.unseat_lanes-seat.result in
    let ends = c.unseat_lanes-seat.new.ends.items in
    let history = c.close.result.history in
    let first = c.in-Ok-start.ensures.first in
    let left = c.seat_lanes-seat.ensures.left in
    let u = c.unseat_lanes-seat.ensures in
    let seated : AreSeated desk base 1 all posts = based base c.in-Ok-start.started.1.base (λ b. AreSeated desk b 1 all posts) (ap (λ k. k.base) first) c.seat_lanes-seat.ensures.seated in
    let long : length served ≡ length posts = c.serve_posts.auto.posts ∙ ap length c.deref_mut.ensures.value in
    let each : EachTo WasServed posts served = each_at WasServed posts served long (subst (λ (l : List PostFacts). (k : ℕ) (d : PostFacts) → k < length l → WasServed (get_or l k d) (get_or served k d)) c.deref_mut.ensures.value c.serve_posts.ensures) in
    let whole = took_all served (drop (length served) posts) c.seat_lanes-seat.new.posts.len (long ∙ sym c.seat_lanes-seat.new.posts.ok.0) in
    let session : Session base all (map (λ (p : PostFacts). p.told) served) ends history = session_of desk base all posts served ends u.joined.0 seat history seated each
    (u.ends ∙ ap (map (λ (p : PostFacts). p.end)) whole) (u.joined.1 ∙ ap (map (λ (p : PostFacts). p.seat)) whole) u.joined.2 u.joined.3
    c.close.ensures.seen c.close.ensures.ended c.close.ensures.own c.close.ensures.no_others
    (u.same.2 ∙ ap (λ k. k.number) left ∙ ap (λ k. k.number) first) (u.same.4 ∙ ap (λ k. k.mine) left ∙ ap (λ k. k.mine) first) in
    let is_based : c.close.result.base ≡ base = some_same (sym c.close.ensures.base ∙ u.same.3 ∙ ap (λ k. k.base) left ∙ ap (λ k. k.base) first) in
    let tells : map (λ (p : PostFacts). p.told) served ≡ map told c.unseat_lanes-seat.new.lanes.items = ap (map (λ (p : PostFacts). p.told)) (sym whole) ∙ sym u.lanes in
    subst (λ b. Session b all (map told c.unseat_lanes-seat.new.lanes.items) ends history) (sym is_based) (subst (λ l. Session base all l ends history) tells session)
