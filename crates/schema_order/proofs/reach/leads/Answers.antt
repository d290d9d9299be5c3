use Rattle.std.proofs.Common.{List, Bool, sym, subst}
use Rattle.schema_order.specs.Leads.{AreClosed, IsSeen, lists_of}
use Rattle.schema_order.proofs.Paths.{stays}
use Rattle.schema_order.proofs.reach.leads.Goals as goal

pub returns-then-is_closed-clause-no : goal.returns-then-is_closed-clause-no
returns-then-is_closed-clause-no c = λ _ led.
    let es = lists_of c.args.edges.now in
    let P : List Bool → Type 0 = λ z. AreClosed es z in
    let Q : List Bool → Type 0 = λ z. IsSeen z c.args.from in
    let R : List Bool → Type 0 = λ z. IsSeen z c.args.to in
    let closed = subst P c.deref-then-is_seen-2.ensures.value (c.is_closed.ensures c.if-is_closed.true) in
    let first = subst Q c.deref-2.ensures.value (c.is_seen-2.ensures.yes c.if-is_seen-2.true) in
    c.is_seen.ensures.no c.if-is_seen.false (subst R (sym c.deref.ensures.value) (stays es c.in_ok-seen.seen.items c.args.from c.args.to closed first led))
