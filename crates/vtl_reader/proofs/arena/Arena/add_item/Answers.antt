use Rattle.std.proofs.Common.{rules, ◌≡◌, length, sym, subst}
use Rattle.vtl_reader.specs.Nodes.{Nodes, ItemIsBelow, Keeps, expr_of, item_of, item_made}
use Rattle.vtl_reader.proofs.Trees.{keeps_item, tree_item}
use Rattle.vtl_reader.proofs.arena.Arena.add_item.Goals as goal

pub returns-clause-kept : goal.returns-clause-kept
returns-clause-kept c =
    let P : Nodes → Type 0 = λ z. ItemIsBelow (length z.exprs) (length z.items) c.args.node in
    let Q : Nodes → Type 0 = λ z. Keeps z (record { exprs = c.self.inside.exprs.items; items = c.push.new.self.items }) in
    subst Q c.self.view_is (rw c.in_ok-push.ensures.items (keeps_item _ _ c.self.invariant c.args.node (subst P (sym c.self.view_is) c.requires.below)))

pub returns-clause-tree : goal.returns-clause-tree
returns-clause-tree c =
    let P : Nodes → Type 0 = λ z. ItemIsBelow (length z.exprs) (length z.items) c.args.node in
    let Q : Nodes → Type 0 = λ z. item_of (record { exprs = c.self.inside.exprs.items; items = c.push.new.self.items }) c.len-k.result ≡ item_made (expr_of z.exprs) (item_of z) c.args.node in
    let at : c.len-k.result ≡ length c.self.inside.items.items = search rules in
    subst Q c.self.view_is (rw (c.in_ok-push.ensures.items, at) (tree_item _ _ c.self.invariant c.args.node (subst P (sym c.self.view_is) c.requires.below)))
