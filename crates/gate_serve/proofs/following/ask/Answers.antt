use Rattle.std.proofs.Common.{◌≡◌, List, [], ◌∷◌, refl, subst, false}
use Rattle.backend_core.specs.declared.outcome.Outcome.{Outcome}
use Rattle.gate_serve.specs.Serving.{Asked, BackendTold, Did, Reaches}
use Rattle.gate_serve.proofs.Asking.{asked_in_vain, asked_none, asked_nothing, asked_once, reaches_none}
use Rattle.gate_serve.proofs.Doing.{did_nothing, goes_out}
use Rattle.gate_serve.specs.declared.called.Called.TheVariants as called
use Rattle.gate_walk.specs.Acts.{Act, tell_closing}
use Rattle.gate_walk.specs.Walk.{Call, leaves, performs}
use Rattle.gate_walk.proofs.Ways.{leaving_asks_none}
use Rattle.method_answers.specs.Outcomes.{outcome_made}
use Rattle.method_answers.specs.Plans.{exchanges}
use Rattle.gate_serve.proofs.following.ask.Goals as goal

pub returns-in-Memory-clause-walked : goal.returns-in-Memory-clause-walked
returns-in-Memory-clause-walked g c =
    let b = c.args.means.now.backend in
    let d = c.exchange-outcome.new.self in
    let old : BackendTold = record { sent = g.B.Backend.sent b; given = g.B.Backend.given b; to_come = g.B.Backend.to_come b } in
    let new : BackendTold = record { sent = g.B.Backend.sent d; given = g.B.Backend.given d; to_come = g.B.Backend.to_come d } in
    let x = c.args.exchange.now in
    let e = c.exchange-outcome.ensures in (
      [],
      did_nothing c.args.seat c.requires.own,
      (performs c.args.message.now (exchanges x.request (outcome_made x.passes x.call)), refl),
      refl,
      asked_in_vain old new x.request c.exchange-outcome.result c.in-Memory.is e.sent e.given e.script,
    )

pub returns-in-Ok : goal.returns-in-Ok
returns-in-Ok g c =
    let b = c.args.means.now.backend in
    let d = c.exchange-outcome.new.self in
    let old : BackendTold = record { sent = g.B.Backend.sent b; given = g.B.Backend.given b; to_come = g.B.Backend.to_come b } in
    let new : BackendTold = record { sent = g.B.Backend.sent d; given = g.B.Backend.given d; to_come = g.B.Backend.to_come d } in
    let x = c.args.exchange.now in
    let m = c.args.message.now in
    let e = c.exchange-outcome.ensures in
    let outcome = c.exchange-outcome.result in
    let next : Outcome → Call = λ o. leaves m (outcome_made x.passes x.call o) in
    let w = c.leave.ensures in
    let then = subst (λ a. (acts : List Act) × Did c.args.seat c.leave.result.0 acts × Reaches (leaves m a) acts c.leave.result.1 × (c.leave.result.2 ≡ tell_closing acts) × Asked new new acts) c.in-Ok.ensures.0
    (w.0, w.1, w.2, w.3, asked_none new w.0 (reaches_none (leaves m c.in-Ok.made) w.0 c.leave.result.1 (leaving_asks_none m c.in-Ok.made) w.2)) in
    record {
      walked = goes_out c.args.seat c.leave.result.0 x.request outcome next c.leave.result.1 c.leave.result.2 old new new
          (asked_once old new x.request outcome c.in-Ok.ensures.1 e.sent e.given e.script) then;
      clock = refl;
      words = refl;
    }

pub returns : goal.returns
returns g c =
    let b = c.args.means.now.backend in
    let d = c.exchange-outcome.new.self in
    let old : BackendTold = record { sent = g.B.Backend.sent b; given = g.B.Backend.given b; to_come = g.B.Backend.to_come b } in
    let new : BackendTold = record { sent = g.B.Backend.sent d; given = g.B.Backend.given d; to_come = g.B.Backend.to_come d } in
    let x = c.args.exchange.now in
    let m = c.args.message.now in
    let e = c.exchange-outcome.ensures in
    let outcome = c.exchange-outcome.result in
    let next : Outcome → Call = λ o. leaves m (outcome_made x.passes x.call o) in
    record {
      walked = goes_out c.args.seat c.args.seat x.request outcome next called.Memory false old new new
          (asked_once old new x.request outcome c.in_default.not-Memory e.sent e.given e.script)
          ([], did_nothing c.args.seat c.requires.own, (next outcome, refl), refl, asked_nothing new);
      clock = refl;
      words = refl;
    }
