use Rattle.std.proofs.Common.{◌<◌, ◌≤◌, ◌-◌, ℕ, length}
use Rattle.resource_tree.specs.Nodes.{depth_at}
use Rattle.resource_tree.proofs.node.end_of.Given as goal

abbrev pub invariant-loop-end : goal.invariant-loop-end
invariant-loop-end l = record {
  after : l.at < l.end;
  within : l.end ≤ length l.nodes;
  below : (k : ℕ) → l.at < k → k < l.end → depth_at l.nodes l.at < depth_at l.nodes k;
}

abbrev pub decreases-loop-end : goal.decreases-loop-end
decreases-loop-end l = length l.nodes - l.end
