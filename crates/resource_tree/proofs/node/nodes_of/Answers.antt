use Rattle.std.proofs.Common.{◌≡◌, ◌<◌, length, sym, ap, subst, arith}
use Rattle.std.specs.List.{All}
use Rattle.resource_tree.specs.declared.order.Entry.{Entry}
use Rattle.resource_tree.specs.Matching.{path_at}
use Rattle.resource_tree.specs.Nodes.{IsPreorder}
use Rattle.resource_tree.specs.Order.{AreTriedInOrder, HasPath}
use Rattle.resource_tree.proofs.Grown.{none_preorder, next_order, next_ends, next_earlier, each_ends}
use Rattle.resource_tree.proofs.node.nodes_of.Goals as goal

pub loop-entry-init : goal.loop-entry-init
loop-entry-init c =
    let none = ap length c.new-nodes.ensures.items in
    record {
      preorder = subst (IsPreorder c.args.paths.now) (sym c.new-nodes.ensures.items) (none_preorder c.args.paths.now);
      ends = λ k d less. absurd (omega arith);
      earlier = λ at less. absurd (omega (arith, none));
    }

pub add_path-requires-clause-order : goal.add_path-requires-clause-order
add_path-requires-clause-order c =
    let same = sym c.deref-entry-items.ensures.value in
    next_order c.args.paths.now c.deref-entry-items.result.now c.loop-entry.entry-index c.entry-item.result c.loop-entry-test.true c.entry-item.is c.loop-entry.nodes.items
    (subst (All (λ (entry : Entry). (entry.path < length c.args.paths.now) × (entry.parts.now ≡ path_at c.args.paths.now entry.path))) same c.in_ok-entries.ensures.each)
    (subst AreTriedInOrder same c.in_ok-entries.ensures.ordered)
    c.loop-entry.invariant.earlier

pub loop-entry-preserved : goal.loop-entry-preserved
loop-entry-preserved c = record {
  preorder = c.in_ok-add_path.ensures.grown.preorder;
  ends = next_ends c.args.paths.now c.deref-entry-items.result.now c.loop-entry.entry-index c.entry-item.result c.loop-entry-test.true c.entry-item.is c.loop-entry.nodes.items c.add_path.new.nodes.items c.in_ok-add_path.ensures.grown c.in_ok-add_path.ensures.ends c.loop-entry.invariant.ends;
  earlier = next_earlier c.args.paths.now c.deref-entry-items.result.now c.loop-entry.entry-index c.entry-item.result c.loop-entry-test.true c.entry-item.is c.loop-entry.nodes.items c.add_path.new.nodes.items c.in_ok-add_path.ensures.grown c.loop-entry.invariant.earlier;
}

pub returns-clause-covered : goal.returns-clause-covered
returns-clause-covered c = λ path less.
    each_ends c.args.paths.now c.deref-entry-items.result.now c.loop-entry.nodes.items c.loop-entry.entry-index path c.loop-entry-test.false c.loop-entry.invariant.ends
    (subst (λ entries. HasPath entries path) (sym c.deref-entry-items.ensures.value) (c.in_ok-entries.ensures.all path less))
