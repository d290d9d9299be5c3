use Rattle.std.proofs.Common.{◌≡◌, length, drop}
use Rattle.std.specs.Cmp.Lexicographic.{slice_cmp}
use Rattle.resource_tree.specs.Nodes.{part_cmp}
use Rattle.resource_tree.proofs.part.compare.Given as goal

-- the paths compare as what is left of them does
abbrev pub invariant-loop-p : goal.invariant-loop-p
invariant-loop-p l = slice_cmp part_cmp (drop (length l.yielded) l.first) (drop (length l.yielded) l.second) ≡ slice_cmp part_cmp l.first l.second
