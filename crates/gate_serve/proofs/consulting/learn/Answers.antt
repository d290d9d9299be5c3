use Rattle.std.proofs.Common.{◌≡◌, List, refl, sym, subst, Ok, IfOk, IfErr, false}
use Rattle.book_core.specs.Books.{Refuses}
use Rattle.book_rules.specs.History.{Answers}
use Rattle.book_rules.specs.declared.events.Event.{Event}
use Rattle.book_rules.specs.declared.replies.Reply.{Reply}
use Rattle.gate_serve.specs.Serving.{Asked, BackendTold, Did, Reaches, learn_at, seat_of}
use Rattle.gate_serve.proofs.Doing.{event_of, did_take, goes_not_asking, goes_through_asking, goes_nowhere_asking}
use Rattle.gate_walk.specs.Acts.{Act, tell_closing}
use Rattle.gate_walk.specs.Walk.{Call, follows, learns}
use Rattle.method_answers.specs.Plans.{judged}
use Rattle.turn_desk.specs.Calls.{Taken, NotTaken}
use Rattle.gate_serve.proofs.consulting.learn.Goals as goal

pub returns-in_default-clause-walked : goal.returns-in_default-clause-walked
returns-in_default-clause-walked g c =
    let b = c.args.means.now.backend in
    let told : BackendTold = record { sent = g.B.Backend.sent b; given = g.B.Backend.given b; to_come = g.B.Backend.to_come b } in
    let a = c.args.given.asking in
    goes_not_asking c.args.seat (learns false c.args.message.now a.call.target a.question (judged a.call a.arn) c.args.given.policy) told c.requires.own

pub returns-in-Err-clause-walked : goal.returns-in-Err-clause-walked
returns-in-Err-clause-walked g c =
    let b = c.args.means.now.backend in
    let told : BackendTold = record { sent = g.B.Backend.sent b; given = g.B.Backend.given b; to_come = g.B.Backend.to_come b } in
    let m = c.args.message.now in
    let a = c.args.given.asking in
    let policy = c.args.given.policy in
    let e : Event = learn_at m a policy in
    let next : Reply → Call = λ reply. follows m (judged a.call a.arn (Ok policy)) in
    let refused = subst (λ r. IfErr r (λ f. NotTaken Refuses c.args.seat c.call-seat.result.0 c.in-Ok.event f)) c.in-Err.is c.call-seat.ensures.refused in
    subst (λ called. (acts : List Act) × Did c.args.seat c.call-seat.result.0 acts × Reaches (learns false m a.call.target a.question (judged a.call a.arn) policy) acts called × (false ≡ tell_closing acts) × Asked told told acts)
    (sym c.refusal.ensures)
    (goes_nowhere_asking c.args.seat c.call-seat.result.0 e next c.in-Err.fault told c.requires.own c.call-seat.ensures.own c.call-seat.ensures.none_from c.call-seat.ensures.same
    (subst (λ x. NotTaken Refuses c.args.seat c.call-seat.result.0 x c.in-Err.fault) c.in-Ok.ensures refused))

pub returns-in-Ok-learning-clause-walked : goal.returns-in-Ok-learning-clause-walked
returns-in-Ok-learning-clause-walked g c =
    let b = c.args.means.now.backend in
    let old : BackendTold = record { sent = g.B.Backend.sent b; given = g.B.Backend.given b; to_come = g.B.Backend.to_come b } in
    let d = c.decide.new.means.backend in
    let new : BackendTold = record { sent = g.B.Backend.sent d; given = g.B.Backend.given d; to_come = g.B.Backend.to_come d } in
    let m = c.args.message.now in
    let a = c.args.given.asking in
    let policy = c.args.given.policy in
    let e : Event = learn_at m a policy in
    let next : Reply → Call = λ reply. follows m (judged a.call a.arn (Ok policy)) in
    let reply = c.in-Ok-learning.field-0 in
    let taken = subst (λ r. IfOk r (λ x. Taken seat_of event_of Answers c.args.seat c.call-seat.result.0 c.in-Ok.event x)) c.in-Ok-learning.is c.call-seat.ensures.taken in
    let first = did_take c.args.seat c.call-seat.result.0 e reply c.requires.own c.call-seat.ensures.own c.call-seat.ensures.none_from c.call-seat.ensures.same
    (subst (λ x. Taken seat_of event_of Answers c.args.seat c.call-seat.result.0 x reply) c.in-Ok.ensures taken) in
    goes_through_asking c.args.seat c.call-seat.result.0 c.decide.result.0 e reply next c.decide.result.1 c.decide.result.2 old new first refl c.decide.ensures.walked
