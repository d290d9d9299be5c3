use Rattle.std.proofs.Common.{◌≡◌, ◌∙◌, ap, sym, subst, ◌<◌, length, Some}
use Rattle.std.specs.Prelude.{slice_get}
use Rattle.vtl_reader.specs.Nodes.{Nodes, expr_of, made, IsBelow}
use Rattle.vtl_reader.proofs.Trees.{there_at, expr_opened}
use Rattle.vtl_reader.proofs.arena.Arena.expr.Goals as goal

pub returns-clause-opened : goal.returns-clause-opened
returns-clause-opened c =
    let P : Nodes → Type 0 = λ z. c.args.k < length z.exprs in
    let Q : Nodes → Type 0 = λ z. expr_of z.exprs c.args.k ≡ made (expr_of z.exprs) c.index.result.now in
    let there : slice_get c.self.inside.exprs.items c.args.k ≡ Some c.index.result.now = there_at c.self.inside.exprs.items c.args.k c.index.result.now (subst P (sym c.self.view_is) c.requires.stands) ∙ ap Some (sym c.index.ensures) in
    subst Q c.self.view_is (expr_opened _ c.self.invariant c.args.k c.index.result.now there)

pub returns-clause-below : goal.returns-clause-below
returns-clause-below c =
    let P : Nodes → Type 0 = λ z. c.args.k < length z.exprs in
    let Q : Nodes → Type 0 = λ z. IsBelow c.args.k c.index.result.now in
    let there : slice_get c.self.inside.exprs.items c.args.k ≡ Some c.index.result.now = there_at c.self.inside.exprs.items c.args.k c.index.result.now (subst P (sym c.self.view_is) c.requires.stands) ∙ ap Some (sym c.index.ensures) in
    subst Q c.self.view_is (c.self.invariant.exprs c.args.k c.index.result.now there)
