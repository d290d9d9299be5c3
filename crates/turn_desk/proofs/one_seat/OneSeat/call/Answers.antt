use Rattle.std.proofs.Common.{◌≡◌, ◌∷◌, [], ◌++◌, ap, sym, ◌∙◌, subst}
use Rattle.std.proofs.lemmas.Result.{IfOk-weaker, IfErr-weaker}
use Rattle.turn_desk.specs.OneSeat.{seen_by}
use Rattle.turn_desk.proofs.Alone.{only_of, stays_only, taken_next, refused_next}
use Rattle.turn_desk.proofs.one_seat.OneSeat.call.Goals as goal

pub invariant_of-self : goal.invariant_of-self
invariant_of-self g c =
    let m = g.M.Machine in
    let e = c.call-seat.ensures in
    stays_only m.seat_of m.event_of m.answers m.refuses _ _ c.in-Some.seat c.call-seat.result.0 c.args.event (only_of _ _ _ c.in-Some.seat (sym c.take.ensures.value ∙ c.in-Some.is) c.self.invariant) e.same e.own e.none_from

pub returns-clause-taken : goal.returns-clause-taken
returns-clause-taken g c =
    let m = g.M.Machine in
    let e = c.call-seat.ensures in
    let l = c.call-seat.result.0 in
    let there = sym c.take.ensures.value ∙ c.in-Some.is in
    let only = only_of _ _ _ c.in-Some.seat there c.self.invariant in
    IfOk-weaker c.call-seat.result.1 _ _
    (λ r t. subst (λ s. (x : g.row.M-Entry.Denot) × (l.seen ≡ s.history ++ x ∷ []) × (m.seat_of x ≡ 0) × (m.event_of x ≡ c.args.event) × m.answers s.base s.history x r) c.self.view_is
    (subst (λ h. (x : g.row.M-Entry.Denot) × (l.seen ≡ h ++ x ∷ []) × (m.seat_of x ≡ 0) × (m.event_of x ≡ c.args.event) × m.answers (m.base c.self.inside.started.value) h x r) (ap seen_by (sym there))
    (taken_next m.seat_of m.event_of m.answers m.refuses _ _ c.in-Some.seat l c.args.event only e.same e.own e.none_from r t)))
    e.taken

pub returns-clause-refused : goal.returns-clause-refused
returns-clause-refused g c =
    let m = g.M.Machine in
    let e = c.call-seat.ensures in
    let l = c.call-seat.result.0 in
    let there = sym c.take.ensures.value ∙ c.in-Some.is in
    let only = only_of _ _ _ c.in-Some.seat there c.self.invariant in
    IfErr-weaker c.call-seat.result.1 _ _
    (λ f t. subst (λ s. (l.seen ≡ s.history) × m.refuses s.base s.history 0 c.args.event f) c.self.view_is
    (subst (λ h. (l.seen ≡ h) × m.refuses (m.base c.self.inside.started.value) h 0 c.args.event f) (ap seen_by (sym there))
    (refused_next m.seat_of m.event_of m.answers m.refuses _ _ c.in-Some.seat l c.args.event only e.same e.own e.none_from f t)))
    e.refused
