use Rattle.std.proofs.Common.{◌≡◌, Bool, true, false, List, ap, sym, subst, ◌∙◌}
use Rattle.admin_routes.specs.Orders.{order_of}
use Rattle.admin_routes.specs.Routes.{is_admin}
use Rattle.call_facts.specs.Target.{target_of}
use Rattle.call_facts.specs.declared.target.Target.{Target}
use Rattle.gate_serve.specs.Serving.{Asked, BackendTold, Did, Reaches}
use Rattle.gate_serve.proofs.Asking.{asked_none, reaches_none}
use Rattle.gate_serve.proofs.Doing.{goes_not_asking}
use Rattle.gate_walk.specs.Acts.{Act, tell_closing}
use Rattle.gate_walk.specs.Walk.{administered, walk, way_to}
use Rattle.gate_walk.specs.declared.message.Message.{Message}
use Rattle.gate_walk.proofs.Ways.{order_asks_none}
use Rattle.gate_serve.proofs.calling.call.Goals as goal

pub returns-in_default-clause-walked : goal.returns-in_default-clause-walked
returns-in_default-clause-walked g c =
    let b = c.args.means.now.backend in
    let told : BackendTold = record { sent = g.B.Backend.sent b; given = g.B.Backend.given b; to_come = g.B.Backend.to_come b } in
    goes_not_asking c.args.seat (walk c.args.message.now) told c.requires.own

-- the way of a message with this target
way_is : (m : Message) (target : Target) (admin : Bool) → target ≡ target_of m.request.target → is_admin target ≡ admin → way_to admin m target ≡ walk m
unfolding walk
way_is m target admin is told = ap (λ a. way_to a m target) (sym told) ∙ ap (λ t. way_to (is_admin t) m t) is

pub returns-then-is_admin-clause-walked : goal.returns-then-is_admin-clause-walked
returns-then-is_admin-clause-walked g c =
    let b = c.args.means.now.backend in
    let told : BackendTold = record { sent = g.B.Backend.sent b; given = g.B.Backend.given b; to_come = g.B.Backend.to_come b } in
    let m = c.args.message.now in
    let order = order_of m.too_large m.request c.in-Ok.target in
    let w = c.administer.ensures in
    let asked = asked_none told w.0 (reaches_none (administered m order) w.0 c.administer.result.1 (order_asks_none m order) w.2) in
    subst (λ x. (acts : List Act) × Did c.args.seat c.administer.result.0 acts × Reaches x acts c.administer.result.1 × (c.administer.result.2 ≡ tell_closing acts) × Asked told told acts)
    (way_is m c.in-Ok.target true c.in-Ok.ensures (sym c.is_admin.ensures ∙ c.if-is_admin.true)) (w.0, w.1, w.2, w.3, asked)

pub returns-clause-walked : goal.returns-clause-walked
returns-clause-walked g c =
    let b = c.args.means.now.backend in
    let old : BackendTold = record { sent = g.B.Backend.sent b; given = g.B.Backend.given b; to_come = g.B.Backend.to_come b } in
    let d = c.enter.new.means.backend in
    let new : BackendTold = record { sent = g.B.Backend.sent d; given = g.B.Backend.given d; to_come = g.B.Backend.to_come d } in
    subst (λ w. (acts : List Act) × Did c.args.seat c.enter.result.0 acts × Reaches w acts c.enter.result.1 × (c.enter.result.2 ≡ tell_closing acts) × Asked old new acts)
    (way_is c.args.message.now c.in-Ok.target false c.in-Ok.ensures (sym c.is_admin.ensures ∙ c.if-is_admin.false)) c.enter.ensures.walked
