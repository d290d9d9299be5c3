use Rattle.std.proofs.Common.{arith, ◌≡◌, ℕ, MatchOption, Option, get_or, Some, ap, sym, ◌∙◌, subst}
use Rattle.std.proofs.lemmas.Grind.{common_steps}
use mathlib.Core.Logic.{dite}
use mathlib.Core.List.{IsPrefix}
use native.Mathlib.Decide.{ℕ_discrete}
use Rattle.turn_desk.specs.Calls.{SeatFacts}
use Rattle.tests_wire.specs.declared.desk.Counted.{Counted}
use Rattle.turn_desk.proofs.Prefixes.{prefix_trans}
use Rattle.turn_desk.proofs.Lanes.{lane_behind}
use Rattle.tests_wire.proofs.desk.lanes.gather.Goals as goal

pub loop-i-preserved : goal.loop-i-preserved
loop-i-preserved c =
    let i = c.loop-i.invariant in
    let j = c.join-seat.ensures in
    record {
      desk = ap (λ s. s.desk) j.both ∙ i.desk;
      seats = ap (λ s. s.seats) j.both ∙ i.seats;
      seen = prefix_trans _ _ _ i.seen j.behind.0;
      behind = λ k d lt. dite (ℕ_discrete k c.loop-i.i)
          (λ e. let here : get_or c.args.lanes.now k d ≡ Some c.in-Some.ended = sym (i.ahead k d (omega arith)) ∙ grind (arith, common_steps) in
          subst (λ (p : Option (SeatFacts Counted ℕ)). MatchOption p ⊥ (λ s. IsPrefix s.seen c.join-seat.result.seen)) (sym here) j.behind.1)
          (λ ne. lane_behind _ _ _ j.behind.0 (i.behind k d (omega arith)));
      count = grind (arith, common_steps);
      ahead = grind (arith, common_steps);
    }
