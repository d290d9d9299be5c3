use Rattle.std.proofs.Common.{◌∙◌, ap, sym, subst, arith}
use mathlib.Core.Option.{none}
use Rattle.atomic_table.specs.Table.{step}
use Rattle.turn_desk.specs.Steps.{looked}
use Rattle.turn_desk.specs.Views.{view}
use Rattle.turn_desk.specs.declared.view.Phase.TheVariants.{Waiting}
use Rattle.turn_desk.proofs.Keeps.{draws_as, looks_as}
use Rattle.turn_desk.proofs.turn.wait_for_turn.Goals as goal

pub fetch_add-ticket-requires : goal.fetch_add-ticket-requires
fetch_add-ticket-requires g c = (c.requires.desk.0, omega arith, draws_as _ _ _ _ _ _ _ _ c.requires.idle.0)

pub loop-init : goal.loop-init
loop-init g c = let e = c.fetch_add-ticket.ensures in
    record { desk = e.0; waits = (e.2.0, e.2.1 ∙ ap (λ x. (view (Waiting e.2.0) c.args.token.now.me.0.known, x)) c.requires.idle.1, e.2.2) }

pub load-served-requires : goal.load-served-requires
load-served-requires g c = let i = c.loop.invariant in (i.desk ∙ c.requires.desk.0, omega arith, looks_as _ _ _ _ _ _ _ i.waits.0 _ (ap (λ m. m.0.phase) i.waits.1))

pub returns-then-served-ticket-clause-desk : goal.returns-then-served-ticket-clause-desk
returns-then-served-ticket-clause-desk g c = c.load-served.ensures.0 ∙ c.loop.invariant.desk

pub returns-then-served-ticket-clause-took : goal.returns-then-served-ticket-clause-took
returns-then-served-ticket-clause-took g c = let i = c.loop.invariant in
    let t = subst (λ m. looked g.M.Machine.history g.M.Machine.base g.M.Machine.seat_of (step c.args.table.now.table_id.slots 1 0 0 none) m c.load-served.result c.load-served.new.seat.me) i.waits.1 c.load-served.ensures.2 in
    (i.waits.0, t.0 (c.if-served-ticket.true ∙ i.waits.2))

pub loop-preserved : goal.loop-preserved
loop-preserved g c = let i = c.loop.invariant in
    let t = subst (λ m. looked g.M.Machine.history g.M.Machine.base g.M.Machine.seat_of (step c.args.table.now.table_id.slots 1 0 0 none) m c.load-served.result c.load-served.new.seat.me) i.waits.1 c.load-served.ensures.2 in
    record { desk = c.load-served.ensures.0 ∙ i.desk; waits = (i.waits.0, t.1 (λ e. c.if-served-ticket.false (e ∙ sym i.waits.2)), i.waits.2) }
