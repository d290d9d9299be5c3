use Rattle.std.proofs.Common.{◌≡◌, List, sym, subst, Result, Ok, Err, IfOk, IfErr, false}
use Rattle.std.specs.Result.{result_unwrap_or}
use Rattle.book_core.specs.Books.{Refuses}
use Rattle.book_rules.specs.History.{Answers}
use Rattle.book_rules.specs.declared.events.Event.{Event}
use Rattle.book_rules.specs.declared.events.Event.TheVariants.{Leave}
use Rattle.gate_serve.specs.Serving.{Did, Reaches, Gives, seat_of}
use Rattle.gate_serve.specs.declared.called.Called.{Called}
use Rattle.gate_serve.specs.declared.called.Called.TheVariants.{Memory}
use Rattle.gate_serve.proofs.Doing.{event_of, did_take, goes_last, goes_nowhere}
use Rattle.gate_walk.specs.Acts.{Act, tell_closing}
use Rattle.gate_walk.specs.Walk.{Call, answered, leaves}
use Rattle.gw_base.specs.declared.outside.Memory.{Memory as Lack}
use Rattle.turn_desk.specs.Calls.{Taken, NotTaken}
use Rattle.gate_serve.proofs.leaving.leave.Goals as goal

pub returns-in-Err : goal.returns-in-Err
returns-in-Err g c =
    let e : Event = Leave c.args.made.now.answer.status c.args.made.now.cause in
    let refused = subst (λ r. IfErr r (λ f. NotTaken Refuses c.args.seat c.call-seat.result.0 e f)) c.in-Err.is c.call-seat.ensures.refused in
    subst (λ called. (acts : List Act) × Did c.args.seat c.call-seat.result.0 acts × Reaches (leaves c.args.message.now c.args.made.now) acts called × (false ≡ tell_closing acts))
    (sym c.refusal.ensures)
    (goes_nowhere c.args.seat c.call-seat.result.0 e (answered c.args.message.now c.args.made.now) c.in-Err.fault c.requires.own c.call-seat.ensures.own c.call-seat.ensures.none_from c.call-seat.ensures.same refused)

-- what is made of the answer, where memory may be wanting
given_or : (call : Call) (r : Result Called Lack) → IfOk r (λ called. Gives call called) → Gives call (result_unwrap_or r Memory)
given_or call (Ok called) h = h
given_or call (Err lack) h = tt

pub returns-in-Ok : goal.returns-in-Ok
returns-in-Ok g c =
    let e : Event = Leave c.args.made.now.answer.status c.args.made.now.cause in
    let next = answered c.args.message.now c.args.made.now in
    let taken = subst (λ r. IfOk r (λ reply. Taken seat_of event_of Answers c.args.seat c.call-seat.result.0 e reply)) c.in-Ok.is c.call-seat.ensures.taken in
    let gives = subst (λ called. Gives (next c.in-Ok.reply) called) (sym c.unwrap_or-called.ensures) (given_or (next c.in-Ok.reply) c.answer.result c.answer.ensures) in
    goes_last c.args.seat c.call-seat.result.0 e c.in-Ok.reply next c.unwrap_or-called.result c.tells_closing-closing.result
    (did_take c.args.seat c.call-seat.result.0 e c.in-Ok.reply c.requires.own c.call-seat.ensures.own c.call-seat.ensures.none_from c.call-seat.ensures.same taken) c.tells_closing-closing.ensures gives
