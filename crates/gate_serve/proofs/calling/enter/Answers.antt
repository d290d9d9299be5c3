use Rattle.std.proofs.Common.{◌≡◌, List, [], refl, sym, subst, Ok, Err, IfOk, IfErr, false}
use Rattle.book_core.specs.Books.{Refuses}
use Rattle.book_rules.specs.History.{Answers}
use Rattle.book_rules.specs.declared.events.Event.{Event}
use Rattle.gate_serve.specs.Serving.{Asked, BackendTold, Did, Reaches, enter_at, seat_of}
use Rattle.gate_serve.specs.declared.called.Called.TheVariants.{Memory}
use Rattle.gate_serve.proofs.Asking.{asked_nothing}
use Rattle.gate_serve.proofs.Doing.{event_of, did_nothing, did_take, goes_not_asking, goes_through_asking, goes_nowhere_asking}
use Rattle.gate_walk.specs.Acts.{Act, tell_closing}
use Rattle.gate_walk.specs.Walk.{entered, pursues, walk_to}
use Rattle.turn_desk.specs.Calls.{Taken, NotTaken}
use Rattle.gate_serve.proofs.calling.enter.Goals as goal

pub returns-in_default-clause-walked : goal.returns-in_default-clause-walked
returns-in_default-clause-walked g c =
    let b = c.args.means.now.backend in
    let told : BackendTold = record { sent = g.B.Backend.sent b; given = g.B.Backend.given b; to_come = g.B.Backend.to_come b } in
    goes_not_asking c.args.seat (walk_to c.args.message.now c.args.target.now) told c.requires.own

pub returns-in-Err-clause-walked : goal.returns-in-Err-clause-walked
returns-in-Err-clause-walked g c =
    let b = c.args.means.now.backend in
    let told : BackendTold = record { sent = g.B.Backend.sent b; given = g.B.Backend.given b; to_come = g.B.Backend.to_come b } in
    let e : Event = enter_at c.args.message.now c.args.target.now in
    let refused = subst (λ r. IfErr r (λ f. NotTaken Refuses c.args.seat c.call-seat.result.0 c.in-Ok.event f)) c.in-Err.is c.call-seat.ensures.refused in
    subst (λ called. (acts : List Act) × Did c.args.seat c.call-seat.result.0 acts × Reaches (walk_to c.args.message.now c.args.target.now) acts called × (false ≡ tell_closing acts) × Asked told told acts)
    (sym c.refusal.ensures)
    (goes_nowhere_asking c.args.seat c.call-seat.result.0 e (entered c.args.message.now c.args.target.now) c.in-Err.fault told c.requires.own c.call-seat.ensures.own c.call-seat.ensures.none_from c.call-seat.ensures.same
    (subst (λ x. NotTaken Refuses c.args.seat c.call-seat.result.0 x c.in-Err.fault) c.in-Ok.ensures refused))

pub returns-in-Ok-plan_for-clause-walked : goal.returns-in-Ok-plan_for-clause-walked
returns-in-Ok-plan_for-clause-walked g c =
    let b = c.args.means.now.backend in
    let old : BackendTold = record { sent = g.B.Backend.sent b; given = g.B.Backend.given b; to_come = g.B.Backend.to_come b } in
    let d = c.pursue.new.means.backend in
    let new : BackendTold = record { sent = g.B.Backend.sent d; given = g.B.Backend.given d; to_come = g.B.Backend.to_come d } in
    let m = c.args.message.now in
    let e : Event = enter_at m c.args.target.now in
    let reply = c.in-Ok-entering.reply in
    let taken = subst (λ r. IfOk r (λ x. Taken seat_of event_of Answers c.args.seat c.call-seat.result.0 c.in-Ok.event x)) c.in-Ok-entering.is c.call-seat.ensures.taken in
    let first = did_take c.args.seat c.call-seat.result.0 e reply c.requires.own c.call-seat.ensures.own c.call-seat.ensures.none_from c.call-seat.ensures.same
    (subst (λ x. Taken seat_of event_of Answers c.args.seat c.call-seat.result.0 x reply) c.in-Ok.ensures taken) in
    let then = subst (λ p. (acts : List Act) × Did c.call-seat.result.0 c.pursue.result.0 acts × Reaches (pursues m p) acts c.pursue.result.1 × (c.pursue.result.2 ≡ tell_closing acts) × Asked old new acts)
    c.in-Ok-plan_for.ensures c.pursue.ensures.walked in
    goes_through_asking c.args.seat c.call-seat.result.0 c.pursue.result.0 e reply (entered m c.args.target.now) c.pursue.result.1 c.pursue.result.2 old new first refl then

pub returns-clause-walked : goal.returns-clause-walked
returns-clause-walked g c =
    let b = c.args.means.now.backend in
    let told : BackendTold = record { sent = g.B.Backend.sent b; given = g.B.Backend.given b; to_come = g.B.Backend.to_come b } in
    let m = c.args.message.now in
    let e : Event = enter_at m c.args.target.now in
    let reply = c.in-Ok-entering.reply in
    let taken = subst (λ r. IfOk r (λ x. Taken seat_of event_of Answers c.args.seat c.call-seat.result.0 c.in-Ok.event x)) c.in-Ok-entering.is c.call-seat.ensures.taken in
    let first = did_take c.args.seat c.call-seat.result.0 e reply c.requires.own c.call-seat.ensures.own c.call-seat.ensures.none_from c.call-seat.ensures.same
    (subst (λ x. Taken seat_of event_of Answers c.args.seat c.call-seat.result.0 x reply) c.in-Ok.ensures taken) in
    goes_through_asking c.args.seat c.call-seat.result.0 c.call-seat.result.0 e reply (entered m c.args.target.now) Memory false told told first refl
    ([], did_nothing c.call-seat.result.0 c.call-seat.ensures.own, (entered m c.args.target.now reply, refl), refl, asked_nothing told)
