use Rattle.std.proofs.Common.{rules, ◌≡◌, length, sym, subst}
use Rattle.vtl_reader.specs.Nodes.{Nodes, IsBelow, Keeps, expr_of, made}
use Rattle.vtl_reader.proofs.Trees.{ordered_expr, keeps_expr, tree_expr}
use Rattle.vtl_reader.proofs.arena.Arena.add_expr.Goals as goal

pub invariant_of-self-2 : goal.invariant_of-self-2
invariant_of-self-2 c =
    let P : Nodes → Type 0 = λ z. IsBelow (length z.exprs) c.args.node in
    rw c.in_ok-push.ensures.items (ordered_expr _ _ c.self.invariant c.args.node (subst P (sym c.self.view_is) c.requires.below))

pub returns-clause-kept : goal.returns-clause-kept
returns-clause-kept c =
    let P : Nodes → Type 0 = λ z. IsBelow (length z.exprs) c.args.node in
    let Q : Nodes → Type 0 = λ z. Keeps z (record { exprs = c.push.new.self.items; items = c.self.inside.items.items }) in
    subst Q c.self.view_is (rw c.in_ok-push.ensures.items (keeps_expr _ _ c.self.invariant c.args.node (subst P (sym c.self.view_is) c.requires.below)))

pub returns-clause-tree : goal.returns-clause-tree
returns-clause-tree c =
    let P : Nodes → Type 0 = λ z. IsBelow (length z.exprs) c.args.node in
    let Q : Nodes → Type 0 = λ z. expr_of c.push.new.self.items c.len-k.result ≡ made (expr_of z.exprs) c.args.node in
    let at : c.len-k.result ≡ length c.self.inside.exprs.items = search rules in
    subst Q c.self.view_is (rw (c.in_ok-push.ensures.items, at) (tree_expr _ _ c.self.invariant c.args.node (subst P (sym c.self.view_is) c.requires.below)))
