use Rattle.std.proofs.Common.{ap, sym, ◌∙◌}
use Rattle.turn_desk.specs.OneSeat.{seen_by}
use Rattle.turn_desk.proofs.Alone.{only_of, closed_to}
use Rattle.turn_desk.proofs.one_seat.OneSeat.close.Goals as goal

pub returns-clause-history : goal.returns-clause-history
returns-clause-history g c =
    let m = g.M.Machine in
    let seat = c.in-Some.seat in
    let closed = closed_to m.seat_of _ _ _ seat (m.history c.close.result) (only_of _ _ _ seat c.in-Some.is c.self.invariant) c.close.ensures.base c.close.ensures.own c.close.ensures.no_others in
    closed.1 ∙ ap seen_by (sym c.in-Some.is) ∙ ap (λ s. s.history) c.self.view_is
