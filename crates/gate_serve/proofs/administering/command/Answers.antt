use Rattle.std.proofs.Common.{◌≡◌, List, refl, sym, subst, Ok, Err, IfOk, IfErr, false}
use Rattle.admin_routes.specs.Answers.{replied_made}
use Rattle.book_core.specs.Books.{Refuses}
use Rattle.book_rules.specs.History.{Answers}
use Rattle.book_rules.specs.declared.events.Event.{Event}
use Rattle.book_rules.specs.declared.events.Event.TheVariants.{Admin}
use Rattle.gate_serve.specs.Serving.{Did, Reaches, seat_of}
use Rattle.gate_serve.proofs.Doing.{event_of, did_take, goes_through, goes_nowhere}
use Rattle.gate_walk.specs.Acts.{Act, tell_closing}
use Rattle.gate_walk.specs.Walk.{administered, leaves}
use Rattle.turn_desk.specs.Calls.{Taken, NotTaken}
use Rattle.gate_serve.proofs.administering.command.Goals as goal

pub returns-in-Err : goal.returns-in-Err
returns-in-Err g c =
    let m = c.args.message.now in
    let e : Event = Admin m.moment c.args.command in
    let refused = subst (λ r. IfErr r (λ f. NotTaken Refuses c.args.seat c.call-seat.result.0 e f)) c.in-Err.is c.call-seat.ensures.refused in
    subst (λ called. (acts : List Act) × Did c.args.seat c.call-seat.result.0 acts × Reaches (administered m (Ok c.args.command)) acts called × (false ≡ tell_closing acts))
    (sym c.refusal.ensures)
    (goes_nowhere c.args.seat c.call-seat.result.0 e (λ reply. leaves m (replied_made reply)) c.in-Err.fault c.requires.own c.call-seat.ensures.own c.call-seat.ensures.none_from c.call-seat.ensures.same refused)

pub returns-in-Ok : goal.returns-in-Ok
returns-in-Ok g c =
    let m = c.args.message.now in
    let e : Event = Admin m.moment c.args.command in
    let reply = c.in-Ok.reply in
    let taken = subst (λ r. IfOk r (λ x. Taken seat_of event_of Answers c.args.seat c.call-seat.result.0 e x)) c.in-Ok.is c.call-seat.ensures.taken in
    let first = did_take c.args.seat c.call-seat.result.0 e reply c.requires.own c.call-seat.ensures.own c.call-seat.ensures.none_from c.call-seat.ensures.same taken in
    goes_through c.args.seat c.call-seat.result.0 c.tell.result.0 e reply (λ x. leaves m (replied_made x)) c.tell.result.1 c.tell.result.2 first refl c.tell.ensures
