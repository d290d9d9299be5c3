use Rattle.std.proofs.Common.{◌≡◌, ◌<◌, ℕ, length, slice_index}
use Rattle.resource_tree.specs.Nodes.{IsEndOf}
use Rattle.resource_tree.proofs.node.ends_of.Given as goal

abbrev pub invariant-loop-at : goal.invariant-loop-at
invariant-loop-at l = record {
  count : length l.ends.items ≡ l.at;
  ends : (at : ℕ) → at < l.at → IsEndOf l.nodes at (slice_index l.ends.items at);
}
