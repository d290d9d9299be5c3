use Rattle.std.proofs.Common.{◌<◌, ℕ, length, get_or}
use Rattle.resource_tree.specs.declared.order.Entry.{Entry}
use Rattle.resource_tree.specs.Nodes.{IsPreorder, EndsAtNode, node_at}
use Rattle.resource_tree.proofs.Grown.{IsOfEarlier}
use Rattle.resource_tree.proofs.node.nodes_of.Given as goal

-- the paths so far end at nodes, and the nodes are theirs
abbrev pub invariant-loop-entry : goal.invariant-loop-entry
invariant-loop-entry l = record {
  preorder : IsPreorder l.paths l.nodes.items;
  ends : (k : ℕ) (d : Entry) → k < l.entry-index → EndsAtNode l.paths l.nodes.items (get_or l.entry-items k d).path;
  earlier : (at : ℕ) → at < length l.nodes.items → IsOfEarlier l.entry-items l.entry-index (node_at l.nodes.items at).path;
}
