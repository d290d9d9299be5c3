use Rattle.std.proofs.Common.{◌≡◌, ◌⊎◌, ⊎_elim, List, [], refl, sym, subst, Err, Some, false}
use Rattle.authorizer_call.specs.Outcomes.{policy_of}
use Rattle.backend_core.specs.declared.outcome.Outcome.{Outcome}
use Rattle.gate_serve.specs.Serving.{Asked, BackendTold, Did, Reaches}
use Rattle.gate_serve.specs.declared.called.Called.TheVariants.{Memory}
use Rattle.gate_serve.proofs.Asking.{asked_in_vain, asked_nothing, asked_once}
use Rattle.gate_serve.proofs.Doing.{did_nothing, goes_out}
use Rattle.gate_walk.specs.Acts.{Act, tell_closing}
use Rattle.gate_walk.specs.Walk.{Call, follows, gives, inquires_by}
use Rattle.method_answers.specs.Plans.{judged}
use Rattle.gate_serve.proofs.consulting.send.Goals as goal

pub returns-in-Memory-clause-walked : goal.returns-in-Memory-clause-walked
returns-in-Memory-clause-walked g c =
    let b = c.args.means.now.backend in
    let d = c.exchange-outcome.new.self in
    let old : BackendTold = record { sent = g.B.Backend.sent b; given = g.B.Backend.given b; to_come = g.B.Backend.to_come b } in
    let new : BackendTold = record { sent = g.B.Backend.sent d; given = g.B.Backend.given d; to_come = g.B.Backend.to_come d } in
    let a = c.args.inquiry.asking in
    let request = c.args.inquiry.request in
    let e = c.exchange-outcome.ensures in (
      [],
      did_nothing c.args.seat c.requires.own,
      (inquires_by (Some request) c.args.message.now a.call.target a.question (judged a.call a.arn), refl),
      refl,
      asked_in_vain old new request c.exchange-outcome.result c.in-Memory.is e.sent e.given e.script,
    )

pub returns-in-Ok : goal.returns-in-Ok
returns-in-Ok g c =
    let b = c.args.means.now.backend in
    let d = c.exchange-outcome.new.self in
    let old : BackendTold = record { sent = g.B.Backend.sent b; given = g.B.Backend.given b; to_come = g.B.Backend.to_come b } in
    let mid : BackendTold = record { sent = g.B.Backend.sent d; given = g.B.Backend.given d; to_come = g.B.Backend.to_come d } in
    let m = c.args.message.now in
    let a = c.args.inquiry.asking in
    let request = c.args.inquiry.request in
    let e = c.exchange-outcome.ensures in
    let outcome = c.exchange-outcome.result in
    let next : Outcome → Call = λ o. gives m a.call.target a.question (judged a.call a.arn) (policy_of o) in
    let asked = asked_once old mid request outcome c.in_default.not-Memory e.sent e.given e.script in
    let f = c.give.new.means.backend in
    let new : BackendTold = record { sent = g.B.Backend.sent f; given = g.B.Backend.given f; to_come = g.B.Backend.to_come f } in
    let then = subst (λ p. (acts : List Act) × Did c.args.seat c.give.result.0 acts × Reaches (gives m a.call.target a.question (judged a.call a.arn) p) acts c.give.result.1 × (c.give.result.2 ≡ tell_closing acts) × Asked mid new acts)
    (sym c.in-Ok.ensures) c.give.ensures.walked in
    record {
      walked = goes_out c.args.seat c.give.result.0 request outcome next c.give.result.1 c.give.result.2 old mid new asked then;
      clock = c.give.ensures.clock;
      words = c.give.ensures.words;
    }

pub returns-in-Ok-failed : goal.returns-in-Ok-failed
returns-in-Ok-failed g c =
    let b = c.args.means.now.backend in
    let d = c.exchange-outcome.new.self in
    let old : BackendTold = record { sent = g.B.Backend.sent b; given = g.B.Backend.given b; to_come = g.B.Backend.to_come b } in
    let mid : BackendTold = record { sent = g.B.Backend.sent d; given = g.B.Backend.given d; to_come = g.B.Backend.to_come d } in
    let m = c.args.message.now in
    let a = c.args.inquiry.asking in
    let request = c.args.inquiry.request in
    let e = c.exchange-outcome.ensures in
    let outcome = c.exchange-outcome.result in
    let next : Outcome → Call = λ o. gives m a.call.target a.question (judged a.call a.arn) (policy_of o) in
    let asked = asked_once old mid request outcome c.in_default.not-Memory e.sent e.given e.script in
    let f = c.follow.new.means.backend in
    let new : BackendTold = record { sent = g.B.Backend.sent f; given = g.B.Backend.given f; to_come = g.B.Backend.to_come f } in
    let fault = c.in-Err.fault in
    let same : policy_of outcome ≡ Err fault = ⊎_elim (λ lack. absurd (c.in-Ok-failed.ensures.1 lack)) (λ is. is) c.in-Err.ensures in
    let judged_so = subst (λ w. (acts : List Act) × Did c.args.seat c.follow.result.0 acts × Reaches (follows m w) acts c.follow.result.1 × (c.follow.result.2 ≡ tell_closing acts) × Asked mid new acts)
    c.in-Ok-failed.ensures.0 c.follow.ensures.walked in
    let then = subst (λ p. (acts : List Act) × Did c.args.seat c.follow.result.0 acts × Reaches (gives m a.call.target a.question (judged a.call a.arn) p) acts c.follow.result.1 × (c.follow.result.2 ≡ tell_closing acts) × Asked mid new acts)
    (sym same) judged_so in
    record {
      walked = goes_out c.args.seat c.follow.result.0 request outcome next c.follow.result.1 c.follow.result.2 old mid new asked then;
      clock = c.follow.ensures.clock;
      words = c.follow.ensures.words;
    }

pub returns : goal.returns
returns g c =
    let b = c.args.means.now.backend in
    let d = c.exchange-outcome.new.self in
    let old : BackendTold = record { sent = g.B.Backend.sent b; given = g.B.Backend.given b; to_come = g.B.Backend.to_come b } in
    let mid : BackendTold = record { sent = g.B.Backend.sent d; given = g.B.Backend.given d; to_come = g.B.Backend.to_come d } in
    let m = c.args.message.now in
    let a = c.args.inquiry.asking in
    let request = c.args.inquiry.request in
    let e = c.exchange-outcome.ensures in
    let outcome = c.exchange-outcome.result in
    let next : Outcome → Call = λ o. gives m a.call.target a.question (judged a.call a.arn) (policy_of o) in
    let asked = asked_once old mid request outcome c.in_default.not-Memory e.sent e.given e.script in
    record {
      walked = goes_out c.args.seat c.args.seat request outcome next Memory false old mid mid asked
          ([], did_nothing c.args.seat c.requires.own, (next outcome, refl), refl, asked_nothing mid);
      clock = refl;
      words = refl;
    }
