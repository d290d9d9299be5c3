use Rattle.std.proofs.Common.{◌≡◌, List, [], refl, sym, subst, ◌∙◌, IfOk, IfErr, false}
use Rattle.book_core.specs.Books.{Refuses}
use Rattle.book_rules.specs.History.{Answers}
use Rattle.book_rules.specs.declared.events.Event.{Event}
use Rattle.book_rules.specs.declared.replies.Reply.{Reply}
use Rattle.gate_serve.specs.Serving.{Asked, BackendTold, Did, Reaches, recall_at, seat_of}
use Rattle.gate_serve.specs.declared.called.Called.TheVariants.{Memory}
use Rattle.gate_serve.proofs.Asking.{asked_nothing}
use Rattle.gate_serve.proofs.Doing.{event_of, did_nothing, did_take, goes_not_asking, goes_through_asking, goes_nowhere_asking}
use Rattle.gate_walk.specs.Acts.{Act, tell_closing}
use Rattle.gate_walk.specs.Walk.{Call, consulted, policy_in, recalled}
use Rattle.method_answers.specs.Plans.{judged}
use Rattle.turn_desk.specs.Calls.{Taken, NotTaken}
use Rattle.gate_serve.proofs.consulting.recall.Goals as goal

pub returns-in_default-clause-walked : goal.returns-in_default-clause-walked
returns-in_default-clause-walked g c =
    let b = c.args.means.now.backend in
    let told : BackendTold = record { sent = g.B.Backend.sent b; given = g.B.Backend.given b; to_come = g.B.Backend.to_come b } in
    let a = c.args.asking in
    goes_not_asking c.args.seat (consulted false c.args.message.now a.call.target a.question (judged a.call a.arn)) told c.requires.own

pub returns-in-Err-clause-walked : goal.returns-in-Err-clause-walked
returns-in-Err-clause-walked g c =
    let b = c.args.means.now.backend in
    let told : BackendTold = record { sent = g.B.Backend.sent b; given = g.B.Backend.given b; to_come = g.B.Backend.to_come b } in
    let m = c.args.message.now in
    let a = c.args.asking in
    let e : Event = recall_at m a in
    let next : Reply → Call = λ reply. recalled m a.call.target a.question (judged a.call a.arn) (policy_in reply) in
    let refused = subst (λ r. IfErr r (λ f. NotTaken Refuses c.args.seat c.call-seat.result.0 c.in-Ok.event f)) c.in-Err.is c.call-seat.ensures.refused in
    subst (λ called. (acts : List Act) × Did c.args.seat c.call-seat.result.0 acts × Reaches (consulted false m a.call.target a.question (judged a.call a.arn)) acts called × (false ≡ tell_closing acts) × Asked told told acts)
    (sym c.refusal.ensures)
    (goes_nowhere_asking c.args.seat c.call-seat.result.0 e next c.in-Err.fault told c.requires.own c.call-seat.ensures.own c.call-seat.ensures.none_from c.call-seat.ensures.same
    (subst (λ x. NotTaken Refuses c.args.seat c.call-seat.result.0 x c.in-Err.fault) c.in-Ok.ensures refused))

pub returns-in-Ok-Some-clause-walked : goal.returns-in-Ok-Some-clause-walked
returns-in-Ok-Some-clause-walked g c =
    let b = c.args.means.now.backend in
    let old : BackendTold = record { sent = g.B.Backend.sent b; given = g.B.Backend.given b; to_come = g.B.Backend.to_come b } in
    let d = c.decide.new.means.backend in
    let new : BackendTold = record { sent = g.B.Backend.sent d; given = g.B.Backend.given d; to_come = g.B.Backend.to_come d } in
    let m = c.args.message.now in
    let a = c.args.asking in
    let e : Event = recall_at m a in
    let next : Reply → Call = λ reply. recalled m a.call.target a.question (judged a.call a.arn) (policy_in reply) in
    let reply = c.in-Ok-recalling.reply in
    let taken = subst (λ r. IfOk r (λ x. Taken seat_of event_of Answers c.args.seat c.call-seat.result.0 c.in-Ok.event x)) c.in-Ok-recalling.is c.call-seat.ensures.taken in
    let first = did_take c.args.seat c.call-seat.result.0 e reply c.requires.own c.call-seat.ensures.own c.call-seat.ensures.none_from c.call-seat.ensures.same
    (subst (λ x. Taken seat_of event_of Answers c.args.seat c.call-seat.result.0 x reply) c.in-Ok.ensures taken) in
    let then = subst (λ p. (acts : List Act) × Did c.call-seat.result.0 c.decide.result.0 acts × Reaches (recalled m a.call.target a.question (judged a.call a.arn) p) acts c.decide.result.1 × (c.decide.result.2 ≡ tell_closing acts) × Asked old new acts)
    (sym c.in-Ok-Some.field-0-is ∙ c.in-Ok-Some.ensures) c.decide.ensures.walked in
    goes_through_asking c.args.seat c.call-seat.result.0 c.decide.result.0 e reply next c.decide.result.1 c.decide.result.2 old new first refl then

pub returns-in-Ok-None-clause-walked : goal.returns-in-Ok-None-clause-walked
returns-in-Ok-None-clause-walked g c =
    let b = c.args.means.now.backend in
    let old : BackendTold = record { sent = g.B.Backend.sent b; given = g.B.Backend.given b; to_come = g.B.Backend.to_come b } in
    let d = c.inquire.new.means.backend in
    let new : BackendTold = record { sent = g.B.Backend.sent d; given = g.B.Backend.given d; to_come = g.B.Backend.to_come d } in
    let m = c.args.message.now in
    let a = c.args.asking in
    let e : Event = recall_at m a in
    let next : Reply → Call = λ reply. recalled m a.call.target a.question (judged a.call a.arn) (policy_in reply) in
    let reply = c.in-Ok-recalling.reply in
    let taken = subst (λ r. IfOk r (λ x. Taken seat_of event_of Answers c.args.seat c.call-seat.result.0 c.in-Ok.event x)) c.in-Ok-recalling.is c.call-seat.ensures.taken in
    let first = did_take c.args.seat c.call-seat.result.0 e reply c.requires.own c.call-seat.ensures.own c.call-seat.ensures.none_from c.call-seat.ensures.same
    (subst (λ x. Taken seat_of event_of Answers c.args.seat c.call-seat.result.0 x reply) c.in-Ok.ensures taken) in
    let then = subst (λ p. (acts : List Act) × Did c.call-seat.result.0 c.inquire.result.0 acts × Reaches (recalled m a.call.target a.question (judged a.call a.arn) p) acts c.inquire.result.1 × (c.inquire.result.2 ≡ tell_closing acts) × Asked old new acts)
    (sym c.in-Ok-None.field-0-is ∙ c.in-Ok-None.ensures) c.inquire.ensures.walked in
    goes_through_asking c.args.seat c.call-seat.result.0 c.inquire.result.0 e reply next c.inquire.result.1 c.inquire.result.2 old new first refl then

pub returns-clause-walked : goal.returns-clause-walked
returns-clause-walked g c =
    let b = c.args.means.now.backend in
    let told : BackendTold = record { sent = g.B.Backend.sent b; given = g.B.Backend.given b; to_come = g.B.Backend.to_come b } in
    let m = c.args.message.now in
    let a = c.args.asking in
    let e : Event = recall_at m a in
    let next : Reply → Call = λ reply. recalled m a.call.target a.question (judged a.call a.arn) (policy_in reply) in
    let reply = c.in-Ok-recalling.reply in
    let taken = subst (λ r. IfOk r (λ x. Taken seat_of event_of Answers c.args.seat c.call-seat.result.0 c.in-Ok.event x)) c.in-Ok-recalling.is c.call-seat.ensures.taken in
    let first = did_take c.args.seat c.call-seat.result.0 e reply c.requires.own c.call-seat.ensures.own c.call-seat.ensures.none_from c.call-seat.ensures.same
    (subst (λ x. Taken seat_of event_of Answers c.args.seat c.call-seat.result.0 x reply) c.in-Ok.ensures taken) in
    goes_through_asking c.args.seat c.call-seat.result.0 c.call-seat.result.0 e reply next Memory false told told first refl
    ([], did_nothing c.call-seat.result.0 c.call-seat.ensures.own, (next reply, refl), refl, asked_nothing told)
