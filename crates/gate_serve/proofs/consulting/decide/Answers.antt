use Rattle.std.proofs.Common.{◌≡◌, List, subst, Ok}
use Rattle.gate_serve.specs.Serving.{Asked, BackendTold, Did, Reaches}
use Rattle.gate_serve.proofs.Doing.{goes_not_asking}
use Rattle.gate_walk.specs.Acts.{Act, tell_closing}
use Rattle.gate_walk.specs.Walk.{follows}
use Rattle.method_answers.specs.Plans.{judged}
use Rattle.gate_serve.proofs.consulting.decide.Goals as goal

pub returns-in-Ok-clause-walked : goal.returns-in-Ok-clause-walked
returns-in-Ok-clause-walked g c =
    let b = c.args.means.now.backend in
    let old : BackendTold = record { sent = g.B.Backend.sent b; given = g.B.Backend.given b; to_come = g.B.Backend.to_come b } in
    let d = c.follow.new.means.backend in
    let new : BackendTold = record { sent = g.B.Backend.sent d; given = g.B.Backend.given d; to_come = g.B.Backend.to_come d } in
    subst (λ w. (acts : List Act) × Did c.args.seat c.follow.result.0 acts × Reaches (follows c.args.message.now w) acts c.follow.result.1 × (c.follow.result.2 ≡ tell_closing acts) × Asked old new acts)
    c.in-Ok.ensures c.follow.ensures.walked

pub returns-in-Err-clause-walked : goal.returns-in-Err-clause-walked
returns-in-Err-clause-walked g c =
    let b = c.args.means.now.backend in
    let told : BackendTold = record { sent = g.B.Backend.sent b; given = g.B.Backend.given b; to_come = g.B.Backend.to_come b } in
    goes_not_asking c.args.seat (follows c.args.message.now (judged c.args.given.asking.call c.args.given.asking.arn (Ok c.args.given.policy))) told c.requires.own
