use Rattle.resource_tree.proofs.Grown.{IsGrowing}
use Rattle.resource_tree.proofs.node.add_path.Given as goal

-- nodes of the path were added, and the next may follow
abbrev pub invariant-loop-depth : goal.invariant-loop-depth
invariant-loop-depth l = IsGrowing l.paths l.fn.nodes.items l.nodes.items l.path l.depth
