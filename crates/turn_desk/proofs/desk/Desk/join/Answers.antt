use Rattle.std.proofs.Common.{arith, ap, ◌∙◌}
use Rattle.turn_desk.proofs.Calls.{at_desk}
use Rattle.turn_desk.proofs.Joins.{tells_as, joins_as}
use Rattle.turn_desk.proofs.desk.Desk.join.Goals as goal

pub join_seat-requires : goal.join_seat-requires
join_seat-requires g c = (
  at_desk _ _ c.seat.inside.token.me.0.known _ _ c.seat.view_is c.self.view_is c.requires.desk.0,
  at_desk _ _ c.ended.inside.token.me.0.known _ _ c.ended.view_is c.self.view_is c.requires.desk.1,
  c.ended.invariant.free,
  omega (arith, c.self.invariant),
  joins_as _ _ _ _ _ _ _ _ _ c.seat.invariant.idle c.ended.invariant.idle,
)

pub load-requires : goal.load-requires
load-requires g c = (
  c.join_seat.ensures.0 ∙ at_desk _ _ c.seat.inside.token.me.0.known _ _ c.seat.view_is c.self.view_is c.requires.desk.0,
  omega (arith, c.self.invariant),
  tells_as _ _ _ _ _ _ _ _ (ap (λ m. m.0.phase) c.join_seat.ensures.2 ∙ c.seat.invariant.idle),
)
