use Rattle.std.proofs.Common.{◌≡◌, ◌∙◌, ap, sym, subst, ◌<◌, length, Some}
use Rattle.std.specs.Prelude.{slice_get}
use Rattle.vtl_reader.specs.Nodes.{Nodes, expr_of, item_of, item_made, ItemIsBelow}
use Rattle.vtl_reader.proofs.Trees.{there_at, item_opened}
use Rattle.vtl_reader.proofs.arena.Arena.item.Goals as goal

pub returns-clause-opened : goal.returns-clause-opened
returns-clause-opened c =
    let P : Nodes → Type 0 = λ z. c.args.k < length z.items in
    let Q : Nodes → Type 0 = λ z. item_of z c.args.k ≡ item_made (expr_of z.exprs) (item_of z) c.index.result.now in
    let there : slice_get c.self.inside.items.items c.args.k ≡ Some c.index.result.now = there_at c.self.inside.items.items c.args.k c.index.result.now (subst P (sym c.self.view_is) c.requires.stands) ∙ ap Some (sym c.index.ensures) in
    subst Q c.self.view_is (item_opened _ c.self.invariant c.args.k c.index.result.now there)

pub returns-clause-below : goal.returns-clause-below
returns-clause-below c =
    let P : Nodes → Type 0 = λ z. c.args.k < length z.items in
    let Q : Nodes → Type 0 = λ z. ItemIsBelow (length z.exprs) c.args.k c.index.result.now in
    let there : slice_get c.self.inside.items.items c.args.k ≡ Some c.index.result.now = there_at c.self.inside.items.items c.args.k c.index.result.now (subst P (sym c.self.view_is) c.requires.stands) ∙ ap Some (sym c.index.ensures) in
    subst Q c.self.view_is (c.self.invariant.items c.args.k c.index.result.now there)
