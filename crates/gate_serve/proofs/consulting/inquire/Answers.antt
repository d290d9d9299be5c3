use Rattle.std.proofs.Common.{◌≡◌, sym, subst, ◌∙◌, List}
use Rattle.gate_serve.specs.Serving.{Asked, BackendTold, Did, Reaches}
use Rattle.gate_serve.proofs.Doing.{goes_not_asking}
use Rattle.gate_walk.specs.Acts.{Act, tell_closing}
use Rattle.gate_walk.specs.Walk.{follows, inquires, inquires_by}
use Rattle.method_answers.specs.Plans.{judged}
use Rattle.gate_serve.proofs.consulting.inquire.Goals as goal

pub returns-in-Ok-Some-clause-walked : goal.returns-in-Ok-Some-clause-walked
returns-in-Ok-Some-clause-walked g c =
    let b = c.args.means.now.backend in
    let old : BackendTold = record { sent = g.B.Backend.sent b; given = g.B.Backend.given b; to_come = g.B.Backend.to_come b } in
    let d = c.send.new.means.backend in
    let new : BackendTold = record { sent = g.B.Backend.sent d; given = g.B.Backend.given d; to_come = g.B.Backend.to_come d } in
    let a = c.args.asking in
    subst (λ r. (acts : List Act) × Did c.args.seat c.send.result.0 acts × Reaches (inquires_by r c.args.message.now a.call.target a.question (judged a.call a.arn)) acts c.send.result.1 × (c.send.result.2 ≡ tell_closing acts) × Asked old new acts)
    (sym c.in-Ok-Some.field-0-is ∙ c.in-Ok-Some.ensures) c.send.ensures.walked

pub returns-in-Ok-clause-walked : goal.returns-in-Ok-clause-walked
returns-in-Ok-clause-walked g c =
    let b = c.args.means.now.backend in
    let old : BackendTold = record { sent = g.B.Backend.sent b; given = g.B.Backend.given b; to_come = g.B.Backend.to_come b } in
    let d = c.follow.new.means.backend in
    let new : BackendTold = record { sent = g.B.Backend.sent d; given = g.B.Backend.given d; to_come = g.B.Backend.to_come d } in
    let m = c.args.message.now in
    let a = c.args.asking in
    let told = subst (λ w. (acts : List Act) × Did c.args.seat c.follow.result.0 acts × Reaches (follows m w) acts c.follow.result.1 × (c.follow.result.2 ≡ tell_closing acts) × Asked old new acts)
    c.in-Ok.ensures.0 c.follow.ensures.walked in
    subst (λ r. (acts : List Act) × Did c.args.seat c.follow.result.0 acts × Reaches (inquires_by r m a.call.target a.question (judged a.call a.arn)) acts c.follow.result.1 × (c.follow.result.2 ≡ tell_closing acts) × Asked old new acts)
    (sym c.in-Ok-None.field-0-is ∙ c.in-Ok-None.ensures) told

pub returns-in-Err-failed-clause-walked : goal.returns-in-Err-failed-clause-walked
returns-in-Err-failed-clause-walked g c =
    let b = c.args.means.now.backend in
    let told : BackendTold = record { sent = g.B.Backend.sent b; given = g.B.Backend.given b; to_come = g.B.Backend.to_come b } in
    let a = c.args.asking in
    goes_not_asking c.args.seat (inquires c.args.message.now a.call.target a.question (judged a.call a.arn)) told c.requires.own

pub returns-in-Err-clause-walked : goal.returns-in-Err-clause-walked
returns-in-Err-clause-walked g c =
    let b = c.args.means.now.backend in
    let told : BackendTold = record { sent = g.B.Backend.sent b; given = g.B.Backend.given b; to_come = g.B.Backend.to_come b } in
    let a = c.args.asking in
    goes_not_asking c.args.seat (inquires c.args.message.now a.call.target a.question (judged a.call a.arn)) told c.requires.own
