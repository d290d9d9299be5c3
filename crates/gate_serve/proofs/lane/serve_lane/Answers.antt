use Rattle.std.proofs.Common.{◌≡◌, ◌∙◌, ℕ, [], Ok, Err, Some, None, Bool, ◌∷◌, ◌++◌, refl, sym, ap, subst, arith, true, false, Option, List, IfSome, ◌⊎◌, inl, inr}
use Rattle.gate_ports.specs.Facts.{ComingFacts, ConnTold}
use Rattle.gate_ports.specs.Lending.{HasNoMore, IfLent, Lent, is_lent, is_ended}
use Rattle.gate_serve.specs.Serving.{lane_end_behind}
use Rattle.gate_walk.specs.Acts.{tell_closing}
use Rattle.gate_walk.specs.Lanes.{Visit, LaneEnds, acts_of_all, goes_on_behind}
use Rattle.gate_walk.specs.Stories.{Tells, acts_of}
use Rattle.gate_walk.specs.declared.ended.LaneEnd.TheVariants as lane
use Rattle.gw_base.specs.Outside.{Rose}
use Rattle.gate_serve.proofs.Running.{rose_from}
use Rattle.gate_serve.proofs.Visiting.{Visited, visits_none, visits_same, visits_more, saw_more, closing_then, ends_behind, goes_on_where}
use Rattle.gate_serve.proofs.lane.serve_lane.Goals as goal

pub loop-init : goal.loop-init
loop-init g c = record {
  unshut = c.requires.unshut;
  home = c.requires.home;
  faults = omega arith;
  clock = refl;
  words = refl;
  visited = visits_none c.args.seat (g.T.Clock.fixed c.args.lane.now.means.clock) (g.W.Words.fixed c.args.lane.now.means.words) (g.B.Backend.sent c.args.lane.now.means.backend)
      (g.B.Backend.given c.args.lane.now.means.backend) (g.P.Port.coming c.args.lane.now.port) (g.P.Port.served c.args.lane.now.port) c.requires.own;
}

pub accept-requires : goal.accept-requires
accept-requires g c = c.loop.invariant.home

pub loop-preserved-in-Ok-NotYet : goal.loop-preserved-in-Ok-NotYet
loop-preserved-in-Ok-NotYet g c =
    let none : is_lent (Ok c.in-Ok-NotYet.field-0) ≡ false = ap (λ x. is_lent (Ok x)) c.in-Ok-NotYet.field-0-is in
    record {
      unshut = c.accept.ensures.closed ∙ c.loop.invariant.unshut;
      home = c.in-Ok-NotYet.ensures.out ∙ none;
      faults = omega (arith, c.loop.invariant.faults, c.accept.ensures.cause.later);
      clock = c.loop.invariant.clock;
      words = c.loop.invariant.words;
      visited = visits_same c.loop.invariant.visited (g.P.Port.coming c.accept.new.self) (g.P.Port.served c.accept.new.self) (c.in-Ok-NotYet.ensures.none none) c.accept.ensures.served;
    }

pub returns-in-Ok-Ended-clause-served : goal.returns-in-Ok-Ended-clause-served
returns-in-Ok-Ended-clause-served g c =
    let none : is_lent (Ok c.in-Ok-Ended.field-0) ≡ false = ap (λ x. is_lent (Ok x)) c.in-Ok-Ended.field-0-is in
    let r = visits_same c.loop.invariant.visited (g.P.Port.coming c.accept.new.self) (g.P.Port.served c.accept.new.self) (c.in-Ok-Ended.ensures.none none) c.accept.ensures.served in
    (r.visits, r.saw.did, r.saw.sends, r.saw.gives, r.saw.told, r.saw.lent, r.saw.back, (r.on, r.quiet), c.accept.ensures.closed ∙ c.loop.invariant.unshut ∙ sym r.quiet)

pub returns-in-Ok-Ended-clause-clock : goal.returns-in-Ok-Ended-clause-clock
returns-in-Ok-Ended-clause-clock g c = c.loop.invariant.clock

pub returns-in-Ok-Ended-clause-words : goal.returns-in-Ok-Ended-clause-words
returns-in-Ok-Ended-clause-words g c = c.loop.invariant.words

-- where it is told what is to come, nothing is
no_more : (coming : Option (List ComingFacts)) (closed : Bool) (now : Option (List ComingFacts)) → now ≡ coming → closed ≡ false → HasNoMore coming closed → IfSome now (λ x. x ≡ [])
no_more coming closed now same unshut h = subst (λ x. IfSome x (λ y. y ≡ [])) (sym same) (go coming (subst (HasNoMore coming) unshut h))
  where
    differ : false ≡ true → ⊥
    differ e = cc

    go : (coming : Option (List ComingFacts)) → HasNoMore coming false → IfSome coming (λ x. x ≡ [])
    go None h = tt
    go (Some xs) (inl e) = e
    go (Some xs) (inr e) = absurd (differ e)

pub returns-in-Ok-Ended-clause-ended : goal.returns-in-Ok-Ended-clause-ended
returns-in-Ok-Ended-clause-ended g c =
    let none : is_lent (Ok c.in-Ok-Ended.field-0) ≡ false = ap (λ x. is_lent (Ok x)) c.in-Ok-Ended.field-0-is in
    let ended : is_ended (Ok c.in-Ok-Ended.field-0) ≡ true = ap (λ x. is_ended (Ok x)) c.in-Ok-Ended.field-0-is in
    λ _. no_more (g.P.Port.coming c.loop.lane.port) (g.P.Port.closed c.loop.lane.port) (g.P.Port.coming c.accept.new.self) (c.in-Ok-Ended.ensures.none none) c.loop.invariant.unshut (c.in-Ok-Ended.ensures.ended ended)

pub returns-in-Err-clause-served : goal.returns-in-Err-clause-served
returns-in-Err-clause-served g c =
    let none : is_lent {L = g.row.P-Link.Denot} (Err c.in-Err.field-0) ≡ false = refl in
    let r = visits_same c.loop.invariant.visited (g.P.Port.coming c.accept.new.self) (g.P.Port.served c.accept.new.self) (c.in-Err.ensures.none none) c.accept.ensures.served in
    (r.visits, r.saw.did, r.saw.sends, r.saw.gives, r.saw.told, r.saw.lent, r.saw.back, (r.on, r.quiet), c.accept.ensures.closed ∙ c.loop.invariant.unshut ∙ sym r.quiet)

pub returns-in-Err-clause-clock : goal.returns-in-Err-clause-clock
returns-in-Err-clause-clock g c = c.loop.invariant.clock

pub returns-in-Err-clause-words : goal.returns-in-Err-clause-words
returns-in-Err-clause-words g c = c.loop.invariant.words

pub returns-in-Err-clause-fault : goal.returns-in-Err-clause-fault
returns-in-Err-clause-fault g c = λ _. rose_from _ _ _ c.loop.invariant.faults c.in-Err.ensures.cause.failed

pub serve_connection-next-requires-clause-desk : goal.serve_connection-next-requires-clause-desk
serve_connection-next-requires-clause-desk g c = c.loop.invariant.visited.saw.did.same.0 ∙ c.requires.desk

pub serve_connection-next-requires-clause-own : goal.serve_connection-next-requires-clause-own
serve_connection-next-requires-clause-own g c = c.loop.invariant.visited.saw.did.own

pub returns-in-Some-end_behind-clause-served : goal.returns-in-Some-end_behind-clause-served
returns-in-Some-end_behind-clause-served g c =
    let told : g.row.P-Link.Denot → ConnTold = λ x. record { left = g.P.Link.Source.left x; written = g.P.Link.Sink.written x; read_faults = g.P.Link.Source.faults x; write_faults = g.P.Link.Sink.faults x } in
    let moment = g.T.Clock.fixed c.args.lane.now.means.clock in
    let word = g.W.Words.fixed c.args.lane.now.means.words in
    let s = c.serve_connection-next.ensures.served in
    let v : Visit = record { before = told c.in-Ok-Conn.conn; after = told c.serve_connection-next.new.conn; ended = c.serve_connection-next.result.1; story = s.0 } in
    let tells : Tells moment word v.before v.after v.ended v.story =
    subst (λ w. Tells moment w v.before v.after v.ended v.story) c.loop.invariant.words (subst (λ m. Tells m (g.W.Words.fixed c.loop.lane.means.words) v.before v.after v.ended v.story) c.loop.invariant.clock s.3) in
    let r = visits_same c.loop.invariant.visited (g.P.Port.coming c.loop.lane.port) (g.P.Port.served c.accept.new.self) refl c.accept.ensures.served in
    let sent = g.B.Backend.sent c.serve_connection-next.new.means.backend in
    let given = g.B.Backend.given c.serve_connection-next.new.means.backend in
    let coming = g.P.Port.coming c.give_back.new.port in
    let served = g.P.Port.served c.give_back.new.port in
    let was_lent = subst (λ x. IfLent (Ok x) (λ k. Lent (told k) (g.P.Port.coming c.loop.lane.port) (g.P.Port.coming c.accept.new.self))) c.in-Ok-Conn.field-0-is c.in-Ok-Conn.ensures.lent in
    let lent = subst (λ x. Lent v.before (g.P.Port.coming c.loop.lane.port) x) (sym c.give_back.ensures.coming) was_lent in
    let saw = saw_more r c.serve_connection-next.result.0 v sent given coming served s.1 s.2.sends s.2.gives tells lent c.give_back.ensures.served in
    let closing = closing_then r c.serve_connection-next.result.0 v sent given coming served s.1 s.2.sends s.2.gives tells lent c.give_back.ensures.served ∙ sym s.4 in
    let is : lane_end_behind v.ended c.serve_connection-next.result.2 ≡ Some c.in-Some-end_behind.end = sym c.end_behind.ensures ∙ c.in-Some-end_behind.is in
    let ends = ends_behind r.visits v c.serve_connection-next.result.2 c.in-Some-end_behind.end r.on closing v.ended refl is in
    (r.visits ++ v ∷ [], saw.did, saw.sends, saw.gives, saw.told, saw.lent, saw.back, ends, c.give_back.ensures.closed ∙ sym closing)

pub returns-in-Some-end_behind-clause-clock : goal.returns-in-Some-end_behind-clause-clock
returns-in-Some-end_behind-clause-clock g c = c.serve_connection-next.ensures.clock ∙ c.loop.invariant.clock

pub returns-in-Some-end_behind-clause-words : goal.returns-in-Some-end_behind-clause-words
returns-in-Some-end_behind-clause-words g c = c.serve_connection-next.ensures.words ∙ c.loop.invariant.words

pub loop-preserved : goal.loop-preserved
loop-preserved g c =
    let told : g.row.P-Link.Denot → ConnTold = λ x. record { left = g.P.Link.Source.left x; written = g.P.Link.Sink.written x; read_faults = g.P.Link.Source.faults x; write_faults = g.P.Link.Sink.faults x } in
    let moment = g.T.Clock.fixed c.args.lane.now.means.clock in
    let word = g.W.Words.fixed c.args.lane.now.means.words in
    let s = c.serve_connection-next.ensures.served in
    let v : Visit = record { before = told c.in-Ok-Conn.conn; after = told c.serve_connection-next.new.conn; ended = c.serve_connection-next.result.1; story = s.0 } in
    let tells : Tells moment word v.before v.after v.ended v.story =
    subst (λ w. Tells moment w v.before v.after v.ended v.story) c.loop.invariant.words (subst (λ m. Tells m (g.W.Words.fixed c.loop.lane.means.words) v.before v.after v.ended v.story) c.loop.invariant.clock s.3) in
    let r = visits_same c.loop.invariant.visited (g.P.Port.coming c.loop.lane.port) (g.P.Port.served c.accept.new.self) refl c.accept.ensures.served in
    let sent = g.B.Backend.sent c.serve_connection-next.new.means.backend in
    let given = g.B.Backend.given c.serve_connection-next.new.means.backend in
    let coming = g.P.Port.coming c.give_back.new.port in
    let served = g.P.Port.served c.give_back.new.port in
    let was_lent = subst (λ x. IfLent (Ok x) (λ k. Lent (told k) (g.P.Port.coming c.loop.lane.port) (g.P.Port.coming c.accept.new.self))) c.in-Ok-Conn.field-0-is c.in-Ok-Conn.ensures.lent in
    let lent = subst (λ x. Lent v.before (g.P.Port.coming c.loop.lane.port) x) (sym c.give_back.ensures.coming) was_lent in
    let is : lane_end_behind v.ended c.serve_connection-next.result.2 ≡ None = sym c.end_behind.ensures ∙ c.in_default.is in
    let on = goes_on_where v.ended c.serve_connection-next.result.2 is in
    record {
      unshut = c.give_back.ensures.closed ∙ on.1;
      home = c.give_back.ensures.out;
      faults = omega (arith, c.loop.invariant.faults, c.accept.ensures.cause.later, c.give_back.ensures.faults);
      clock = c.serve_connection-next.ensures.clock ∙ c.loop.invariant.clock;
      words = c.serve_connection-next.ensures.words ∙ c.loop.invariant.words;
      visited = visits_more r c.serve_connection-next.result.0 v sent given coming served s.1 s.2.sends s.2.gives tells lent c.give_back.ensures.served on.0 (sym s.4 ∙ on.1);
    }
