use Rattle.std.proofs.Common.{subst, sym, IsSome, rules}
use Rattle.turn_desk.proofs.Closing.{closed, closed_to}
use Rattle.turn_desk.proofs.desk.Desk.close.Goals as goal

pub some_of-requires : goal.some_of-requires
some_of-requires g c = let m = g.M.Machine in
    let e = closed m.history m.base m.seat_of _ _ _ _ _ c.seat.inside.token.me.0 _ _ c.seat.view_is c.seat.invariant.idle c.requires.whole c.close_with-closed.ensures.values.2 c.take-kept.result c.take-kept.ensures.value in
    subst IsSome (sym e.1) (search rules)

pub returns-clause-base : goal.returns-clause-base
returns-clause-base g c = let m = g.M.Machine in
    (closed_to m.history m.base m.seat_of _ _ _ _ _ c.seat.inside.token.me.0 _ _ c.seat.view_is c.seat.invariant.idle c.requires.whole c.close_with-closed.ensures.values.2 c.take-kept.result c.take-kept.ensures.value c.some_of.result c.some_of.ensures).based

pub returns-clause-seen : goal.returns-clause-seen
returns-clause-seen g c = let m = g.M.Machine in
    (closed_to m.history m.base m.seat_of _ _ _ _ _ c.seat.inside.token.me.0 _ _ c.seat.view_is c.seat.invariant.idle c.requires.whole c.close_with-closed.ensures.values.2 c.take-kept.result c.take-kept.ensures.value c.some_of.result c.some_of.ensures).seen

pub returns-clause-own : goal.returns-clause-own
returns-clause-own g c = let m = g.M.Machine in
    (closed_to m.history m.base m.seat_of _ _ _ _ _ c.seat.inside.token.me.0 _ _ c.seat.view_is c.seat.invariant.idle c.requires.whole c.close_with-closed.ensures.values.2 c.take-kept.result c.take-kept.ensures.value c.some_of.result c.some_of.ensures).own

pub returns-clause-ended : goal.returns-clause-ended
returns-clause-ended g c = let m = g.M.Machine in
    (closed_to m.history m.base m.seat_of _ _ _ _ _ c.seat.inside.token.me.0 _ _ c.seat.view_is c.seat.invariant.idle c.requires.whole c.close_with-closed.ensures.values.2 c.take-kept.result c.take-kept.ensures.value c.some_of.result c.some_of.ensures).ended

pub returns-clause-no_others : goal.returns-clause-no_others
returns-clause-no_others g c = let m = g.M.Machine in
    (closed_to m.history m.base m.seat_of _ _ _ _ _ c.seat.inside.token.me.0 _ _ c.seat.view_is c.seat.invariant.idle c.requires.whole c.close_with-closed.ensures.values.2 c.take-kept.result c.take-kept.ensures.value c.some_of.result c.some_of.ensures).no_others
