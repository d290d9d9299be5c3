use Rattle.std.proofs.Common.{Bool, subst}
use Rattle.schema_draft4.specs.Links.{IsBack, linked_by}
use Rattle.schema_draft4.proofs.Back.{one_back}
use Rattle.schema_draft4.proofs.cycle.back_by.Goals as goal

pub returns-then-branch : goal.returns-then-branch
returns-then-branch c =
    let P : Bool → Type 0 = λ b. IsBack (linked_by c.args.links.now) (c.args.k, c.in-Some.t) b in
    one_back (linked_by c.args.links.now) c.args.k c.in-Some.t _ c.in-Some.ensures (subst P c.if-branch.true c.in_ok-comes_back-in-Some.ensures)
