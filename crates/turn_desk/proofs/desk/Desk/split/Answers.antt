use Rattle.std.proofs.Common.{◌<◌, ◌-◌, length, arith, subst, sym, ap, ◌∙◌}
use Rattle.turn_desk.specs.Entries.{entries_of}
use Rattle.turn_desk.specs.Views.{left, AreApart, numbers_of}
use Rattle.turn_desk.proofs.Calls.{at_desk}
use Rattle.turn_desk.proofs.Joins.{tells_as, splits_as}
use Rattle.turn_desk.proofs.Shares.{fewer_apart, length_others}
use Rattle.turn_desk.proofs.desk.Desk.split.Goals as goal

pub load-requires : goal.load-requires
load-requires g c = (at_desk _ _ c.seat.inside.token.me.0.known _ _ c.seat.view_is c.self.view_is c.requires.desk, omega (arith, c.self.invariant), tells_as _ _ _ _ _ _ _ _ c.seat.invariant.idle)

pub split_seat-new-requires : goal.split_seat-new-requires
split_seat-new-requires g c = let same = c.load.ensures.2.same in (
  c.load.ensures.0 ∙ at_desk _ _ c.seat.inside.token.me.0.known _ _ c.seat.view_is c.self.view_is c.requires.desk,
  omega (arith, c.self.invariant),
  splits_as _ _ _ _ _ _ _ (ap (λ m. m.0.phase) same ∙ c.seat.invariant.idle) (subst (λ m. 0 < length m.0.known.spare) (sym same) (subst (λ k. 0 < length k.spare) (sym c.seat.view_is) c.requires.some_spare)),
)

pub load-requires-2 : goal.load-requires-2
load-requires-2 g c = (
  c.split_seat-new.ensures.3 ∙ (c.load.ensures.0 ∙ at_desk _ _ c.seat.inside.token.me.0.known _ _ c.seat.view_is c.self.view_is c.requires.desk),
  omega (arith, c.self.invariant),
  tells_as _ _ _ _ _ _ _ _ (ap (λ m. m.0.phase) c.split_seat-new.ensures.4),
)

pub invariant_of-result : goal.invariant_of-result
invariant_of-result g c =
    let was = c.seat.invariant in
    let now = c.split_seat-new.ensures.2 ∙ ap (λ m. (left m.0, m.1)) c.load.ensures.2.same in
    record {
      idle = ap (λ m. m.0.phase) now ∙ was.idle;
      free = ap (λ m. m.1) now ∙ was.free;
      sized = was.sized ∙ sym (ap (λ m. m.0.known.seats) now);
      numbered = was.numbered ∙ sym (ap (λ m. m.0.known.number) now);
      spared = (λ i. was.spared i - 1) ∙ (length_others c.seat.inside.token.me.0.known.spare ∙ sym (ap (λ m. length m.0.known.spare) now));
      joined = was.joined ∙ sym (ap (λ m. length m.0.known.ended) now);
      few = omega (arith, was.few);
      apart = subst (λ m. AreApart m.0.known.seats (numbers_of m.0.known)) (sym now) (fewer_apart c.seat.inside.token.me.0.known was.apart);
      own = ap (λ m. m.0.known.mine) now ∙ (was.own ∙ sym (ap (λ m. entries_of g.M.Machine.seat_of m.0.known.number m.0.known.seen) now));
    }
