use Rattle.std.proofs.Common.{List, ℕ, arith, subst}
use Rattle.schema_order.specs.Leads.{lists_of}
use Rattle.schema_order.specs.Ranks.{AreBlocked}
use Rattle.schema_order.proofs.Rounds.{all_ranked, lists_length, stuck}
use Rattle.schema_order.proofs.ranks.order.Goals as goal

pub returns-in-None-clause-none : goal.returns-in-None-clause-none
returns-in-None-clause-none c = λ _.
    let es = lists_of c.args.edges.now in
    let P : List ℕ → Type 0 = λ z. AreBlocked es z in
    stuck es c.loop-next.ranks.items c.loop-next.next c.loop-next.invariant (omega (arith, c.loop-next-test.true, lists_length c.args.edges.now)) (subst P c.deref.ensures.value (c.next_ready.ensures.none c.in-None.is))

pub returns-clause-ranks : goal.returns-clause-ranks
returns-clause-ranks c =
    let es = lists_of c.args.edges.now in
    all_ranked es c.loop-next.ranks.items c.loop-next.next c.loop-next.invariant (omega (arith, c.loop-next-test.false, lists_length c.args.edges.now))
