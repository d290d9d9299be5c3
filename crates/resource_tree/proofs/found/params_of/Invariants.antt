use Rattle.std.proofs.Common.{◌≡◌, ◌++◌, drop}
use Rattle.resource_tree.specs.Matching.{params}
use Rattle.resource_tree.proofs.found.params_of.Given as goal

-- the parameters so far, and those of the rest, are those of the path
abbrev pub invariant-loop-part : goal.invariant-loop-part
invariant-loop-part l = l.found.items ++ params (drop l.part-index l.parts) l.rest ≡ params l.parts l.segments
