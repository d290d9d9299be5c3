use Rattle.std.proofs.Common.{◌≡◌, List, [], ap, refl, sym, subst, ◌∙◌, IfOk, IfErr, false}
use Rattle.book_core.specs.Books.{Refuses}
use Rattle.book_rules.specs.History.{Answers}
use Rattle.book_rules.specs.declared.events.Event.{Event}
use Rattle.book_rules.specs.declared.replies.Reply.{Reply}
use Rattle.gate_serve.specs.Serving.{Asked, BackendTold, Did, Reaches, admit_at, seat_of}
use Rattle.gate_serve.specs.declared.called.Called.TheVariants.{Memory}
use Rattle.gate_serve.proofs.Asking.{asked_nothing}
use Rattle.gate_serve.proofs.Doing.{event_of, did_nothing, did_take, goes_not_asking, goes_through_asking, goes_nowhere_asking}
use Rattle.gate_walk.specs.Acts.{Act, tell_closing}
use Rattle.gate_walk.specs.Walk.{Call as Way, admission_of, follows, performs}
use Rattle.gate_walk.specs.declared.message.Message.{Message}
use Rattle.method_answers.specs.Calls.{Call}
use Rattle.method_answers.specs.Keys.{key_value}
use Rattle.method_answers.specs.Plans.{admits, admitted}
use Rattle.turn_desk.specs.Calls.{Taken, NotTaken}
use Rattle.gate_serve.proofs.following.admit.Goals as goal

-- what asks to be admitted, and what each reply leads to
abbrev asking : Message → Call → Way
asking m c = follows m (admits c.target (key_value c.request) (admitted c))

abbrev then_of : Message → Call → Reply → Way
then_of m c reply = performs m (admitted c (admission_of reply))

pub returns-in_default-clause-walked : goal.returns-in_default-clause-walked
returns-in_default-clause-walked g c =
    let b = c.args.means.now.backend in
    let told : BackendTold = record { sent = g.B.Backend.sent b; given = g.B.Backend.given b; to_come = g.B.Backend.to_come b } in
    goes_not_asking c.args.seat (asking c.args.message.now c.args.keyed.call) told c.requires.own

pub returns-in-Err-clause-walked : goal.returns-in-Err-clause-walked
returns-in-Err-clause-walked g c =
    let b = c.args.means.now.backend in
    let told : BackendTold = record { sent = g.B.Backend.sent b; given = g.B.Backend.given b; to_come = g.B.Backend.to_come b } in
    let m = c.args.message.now in
    let k = c.args.keyed.call in
    let e : Event = admit_at m k in
    let refused = subst (λ r. IfErr r (λ f. NotTaken Refuses c.args.seat c.call-seat.result.0 c.in-Ok.event f)) c.in-Err.is c.call-seat.ensures.refused in
    subst (λ called. (acts : List Act) × Did c.args.seat c.call-seat.result.0 acts × Reaches (asking m k) acts called × (false ≡ tell_closing acts) × Asked told told acts)
    (sym c.refusal.ensures)
    (goes_nowhere_asking c.args.seat c.call-seat.result.0 e (then_of m k) c.in-Err.fault told c.requires.own c.call-seat.ensures.own c.call-seat.ensures.none_from c.call-seat.ensures.same
    (subst (λ x. NotTaken Refuses c.args.seat c.call-seat.result.0 x c.in-Err.fault) c.in-Ok.ensures refused))

pub returns-in-Ok-admitted-clause-walked : goal.returns-in-Ok-admitted-clause-walked
returns-in-Ok-admitted-clause-walked g c =
    let b = c.args.means.now.backend in
    let old : BackendTold = record { sent = g.B.Backend.sent b; given = g.B.Backend.given b; to_come = g.B.Backend.to_come b } in
    let d = c.perform.new.means.backend in
    let new : BackendTold = record { sent = g.B.Backend.sent d; given = g.B.Backend.given d; to_come = g.B.Backend.to_come d } in
    let m = c.args.message.now in
    let k = c.args.keyed.call in
    let e : Event = admit_at m k in
    let reply = c.in-Ok-admitting.reply in
    let taken = subst (λ r. IfOk r (λ x. Taken seat_of event_of Answers c.args.seat c.call-seat.result.0 c.in-Ok.event x)) c.in-Ok-admitting.is c.call-seat.ensures.taken in
    let first = did_take c.args.seat c.call-seat.result.0 e reply c.requires.own c.call-seat.ensures.own c.call-seat.ensures.none_from c.call-seat.ensures.same
    (subst (λ x. Taken seat_of event_of Answers c.args.seat c.call-seat.result.0 x reply) c.in-Ok.ensures taken) in
    let then = subst (λ p. (acts : List Act) × Did c.call-seat.result.0 c.perform.result.0 acts × Reaches (performs m p) acts c.perform.result.1 × (c.perform.result.2 ≡ tell_closing acts) × Asked old new acts)
    (c.in-Ok-admitted.ensures ∙ ap (admitted k) c.admission_of.ensures) c.perform.ensures.walked in
    goes_through_asking c.args.seat c.call-seat.result.0 c.perform.result.0 e reply (then_of m k) c.perform.result.1 c.perform.result.2 old new first refl then

pub returns-in-Err-admitted-clause-walked : goal.returns-in-Err-admitted-clause-walked
returns-in-Err-admitted-clause-walked g c =
    let b = c.args.means.now.backend in
    let told : BackendTold = record { sent = g.B.Backend.sent b; given = g.B.Backend.given b; to_come = g.B.Backend.to_come b } in
    let m = c.args.message.now in
    let k = c.args.keyed.call in
    let e : Event = admit_at m k in
    let reply = c.in-Ok-admitting.reply in
    let taken = subst (λ r. IfOk r (λ x. Taken seat_of event_of Answers c.args.seat c.call-seat.result.0 c.in-Ok.event x)) c.in-Ok-admitting.is c.call-seat.ensures.taken in
    let first = did_take c.args.seat c.call-seat.result.0 e reply c.requires.own c.call-seat.ensures.own c.call-seat.ensures.none_from c.call-seat.ensures.same
    (subst (λ x. Taken seat_of event_of Answers c.args.seat c.call-seat.result.0 x reply) c.in-Ok.ensures taken) in
    goes_through_asking c.args.seat c.call-seat.result.0 c.call-seat.result.0 e reply (then_of m k) Memory false told told first refl
    ([], did_nothing c.call-seat.result.0 c.call-seat.ensures.own, (then_of m k reply, refl), refl, asked_nothing told)
