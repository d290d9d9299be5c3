use Rattle.std.proofs.Common.{subst, sym, ap, ◌∙◌}
use Rattle.std.proofs.lemmas.Result.{IfOk-weaker, IfErr-weaker}
use Rattle.turn_desk.specs.Entries.{HasNoneFrom, Grows}
use Rattle.turn_desk.specs.Views.{at_history}
use Rattle.turn_desk.specs.Calls.{facts_of, Taken, NotTaken}
use Rattle.turn_desk.proofs.Calls.{grows_from, taken_from, not_taken_from}
use Rattle.turn_desk.proofs.desk.Desk.call.Goals as goal

pub give_back-requires-clause-turn : goal.give_back-requires-clause-turn
give_back-requires-clause-turn g c =
    let m = g.M.Machine in
    let t = c.take_machine-machine.ensures.turn in
    let n = c.seat.invariant.numbered ∙ sym (ap (λ x. x.0.known.number) t.1) in (
      t.0,
      m.history c.take_machine-machine.result,
      ap (λ x. x.0.phase) t.1,
      subst (λ k. Grows m.seat_of k c.is_ok.result (m.history c.take_machine-machine.result) (m.history c.step-reply.new.self)) n
          (subst (λ b. Grows m.seat_of c.seat.inside.number b (m.history c.take_machine-machine.result) (m.history c.step-reply.new.self)) (sym c.is_ok.ensures.value)
          (grows_from m.seat_of m.event_of m.answers m.refuses c.seat.inside.number (m.base c.take_machine-machine.result) (m.history c.take_machine-machine.result) (m.history c.step-reply.new.self) c.args.event c.step-reply.result c.step-reply.ensures.taken c.step-reply.ensures.refused)),
    )

pub returns-clause-taken : goal.returns-clause-taken
returns-clause-taken g c =
    let m = g.M.Machine in
    let e = c.take_machine-machine.ensures in
    let k = c.seat.inside.token.me.0.known in
    let now = m.history c.step-reply.new.self in
    IfOk-weaker c.step-reply.result _ _
    (λ r t. subst (λ s. Taken m.seat_of m.event_of m.answers s (facts_of c.give_back.new.token.table_id c.give_back.new.token.me.0.known) c.args.event r) c.seat.view_is
    (taken_from m.seat_of m.event_of m.answers c.seat.inside.token.table_id c.give_back.new.token.table_id k c.give_back.new.token.me.0.known (m.history c.take_machine-machine.result) now (m.base c.take_machine-machine.result) c.args.event r
    e.based e.seen e.own (ap (λ x. x.0.known) c.give_back.ensures.idle ∙ ap (λ x. at_history m.seat_of now x.0.known) e.turn.1)
    (t.0, t.1, t.2 ∙ c.seat.invariant.numbered, t.3, t.4)))
    c.step-reply.ensures.taken

pub returns-clause-refused : goal.returns-clause-refused
returns-clause-refused g c =
    let m = g.M.Machine in
    let e = c.take_machine-machine.ensures in
    let k = c.seat.inside.token.me.0.known in
    let before = m.history c.take_machine-machine.result in
    let now = m.history c.step-reply.new.self in
    IfErr-weaker c.step-reply.result _ _
    (λ f t. subst (λ s. NotTaken m.refuses s (facts_of c.give_back.new.token.table_id c.give_back.new.token.me.0.known) c.args.event f) c.seat.view_is
    (not_taken_from m.seat_of m.refuses c.seat.inside.token.table_id c.give_back.new.token.table_id k c.give_back.new.token.me.0.known before now (m.base c.take_machine-machine.result) c.args.event f
    e.based e.seen e.own (ap (λ x. x.0.known) c.give_back.ensures.idle ∙ ap (λ x. at_history m.seat_of now x.0.known) e.turn.1)
    (t.0, subst (λ n. m.refuses (m.base c.take_machine-machine.result) before n c.args.event f) c.seat.invariant.numbered t.1)))
    c.step-reply.ensures.refused

pub returns-clause-none_from : goal.returns-clause-none_from
returns-clause-none_from g c =
    let m = g.M.Machine in
    subst (λ k. HasNoneFrom m.seat_of k.seats k.seen) (sym (ap (λ x. x.0.known) c.give_back.ensures.idle)) c.give_back.ensures.none_from
