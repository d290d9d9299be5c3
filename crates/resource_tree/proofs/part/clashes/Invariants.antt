use Rattle.std.proofs.Common.{◌≡◌, length, drop}
use Rattle.resource_tree.specs.Sharing.{clashes as clashes_of}
use Rattle.resource_tree.proofs.part.clashes.Given as goal

-- the paths clash where what is left of them does
abbrev pub invariant-loop-p : goal.invariant-loop-p
invariant-loop-p l = clashes_of (drop (length l.yielded) l.first) (drop (length l.yielded) l.second) ≡ clashes_of l.first l.second
