use Rattle.std.proofs.Common.{◌≡◌, ◌∷◌, [], ◌++◌, ap, sym, ◌∙◌, subst}
use Rattle.std.proofs.lemmas.Result.{IfOk-weaker, IfErr-weaker}
use Rattle.book_core.specs.Books.{Refuses}
use Rattle.book_rules.specs.History.{Answers}
use Rattle.book_rules.specs.declared.events.Entry.{Entry}
use Rattle.play_session.specs.Sessions.{IsOfPlay, SessionFacts, seat_of}
use Rattle.play_session.proofs.Sitting.{event_of, seated, stays_seated}
use Rattle.turn_desk.specs.OneSeat.{seen_by}
use Rattle.turn_desk.proofs.Alone.{taken_next, refused_next}
use Rattle.play_session.proofs.session.Session.step.Goals as goal

pub invariant_of-self : goal.invariant_of-self
invariant_of-self g c =
    let e = c.call-seat.ensures in
    let s = c.self.inside in
    let at = seated s.desk s.started.value.base _ c.in-Some.seat (sym c.take.ensures.value ∙ c.in-Some.is) c.self.invariant.0 in
    (stays_seated s.desk s.started.value.base c.in-Some.seat c.call-seat.result.0 at.0 at.1 e.same e.own e.none_from, c.self.invariant.1)

pub returns-clause-taken : goal.returns-clause-taken
returns-clause-taken g c =
    let e = c.call-seat.ensures in
    let s = c.self.inside in
    let l = c.call-seat.result.0 in
    let there = sym c.take.ensures.value ∙ c.in-Some.is in
    let at = seated s.desk s.started.value.base _ c.in-Some.seat there c.self.invariant.0 in
    IfOk-weaker c.call-seat.result.1 _ _
    (λ r t. subst (λ v. (x : Entry) × (l.seen ≡ v.history ++ x ∷ []) × (x.seat ≡ 0) × (x.event ≡ c.args.event) × Answers v.base v.history x r) c.self.view_is
    (subst (λ h. (x : Entry) × (l.seen ≡ h ++ x ∷ []) × (x.seat ≡ 0) × (x.event ≡ c.args.event) × Answers s.started.value.base h x r) (ap seen_by (sym there))
    (taken_next seat_of event_of Answers Refuses s.desk s.started.value.base c.in-Some.seat l c.args.event at.0 e.same e.own e.none_from r t)))
    e.taken

pub returns-clause-refused : goal.returns-clause-refused
returns-clause-refused g c =
    let e = c.call-seat.ensures in
    let s = c.self.inside in
    let l = c.call-seat.result.0 in
    let there = sym c.take.ensures.value ∙ c.in-Some.is in
    let at = seated s.desk s.started.value.base _ c.in-Some.seat there c.self.invariant.0 in
    IfErr-weaker c.call-seat.result.1 _ _
    (λ f t. subst (λ v. (l.seen ≡ v.history) × Refuses v.base v.history 0 c.args.event f) c.self.view_is
    (subst (λ h. (l.seen ≡ h) × Refuses s.started.value.base h 0 c.args.event f) (ap seen_by (sym there))
    (refused_next seat_of event_of Answers Refuses s.desk s.started.value.base c.in-Some.seat l c.args.event at.0 e.same e.own e.none_from f t)))
    e.refused

pub returns-clause-of_play : goal.returns-clause-of_play
returns-clause-of_play g c = subst (λ (v : SessionFacts). IsOfPlay v.base) c.self.view_is c.self.invariant.1
