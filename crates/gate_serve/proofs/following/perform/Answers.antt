use Rattle.std.proofs.Common.{◌≡◌, List, subst, sym}
use Rattle.gate_serve.specs.Serving.{Asked, BackendTold, Did, Reaches}
use Rattle.gate_serve.proofs.Asking.{asked_none, reaches_none}
use Rattle.gate_walk.specs.Acts.{Act, tell_closing}
use Rattle.gate_walk.specs.Walk.{leaves, performs}
use Rattle.gate_walk.proofs.Ways.{leaving_asks_none}
use Rattle.method_answers.specs.Plans.{plan_of}
use Rattle.gate_serve.proofs.following.perform.Goals as goal

pub returns-in-Answered-clause-walked : goal.returns-in-Answered-clause-walked
returns-in-Answered-clause-walked g c =
    let b = c.args.means.now.backend in
    let told : BackendTold = record { sent = g.B.Backend.sent b; given = g.B.Backend.given b; to_come = g.B.Backend.to_come b } in
    let w = c.leave.ensures in
    let m = c.args.message.now in
    let made = c.in-Answered.made in
    subst (λ p. (acts : List Act) × Did c.args.seat c.leave.result.0 acts × Reaches (performs m (plan_of p)) acts c.leave.result.1 × (c.leave.result.2 ≡ tell_closing acts) × Asked told told acts)
    (sym c.in-Answered.is) (w.0, w.1, w.2, w.3, asked_none told w.0 (reaches_none (leaves m made) w.0 c.leave.result.1 (leaving_asks_none m made) w.2))
