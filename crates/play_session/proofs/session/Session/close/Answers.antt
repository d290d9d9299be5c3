use Rattle.std.proofs.Common.{ap, sym, ◌∙◌}
use Rattle.play_session.specs.Sessions.{seat_of}
use Rattle.play_session.proofs.Sitting.{seated}
use Rattle.turn_desk.specs.OneSeat.{seen_by}
use Rattle.turn_desk.proofs.Alone.{closed_to}
use Rattle.play_session.proofs.session.Session.close.Goals as goal

pub returns-clause-history : goal.returns-clause-history
returns-clause-history g c =
    let s = c.self.inside in
    let seat = c.in-Some.seat in
    let at = seated s.desk s.started.value.base _ seat c.in-Some.is c.self.invariant.0 in
    let closed = closed_to seat_of s.desk s.started.value.base c.close.result.base seat c.close.result.history at.0 c.close.ensures.base c.close.ensures.own c.close.ensures.no_others in
    closed.1 ∙ ap seen_by (sym c.in-Some.is) ∙ ap (λ v. v.history) c.self.view_is
