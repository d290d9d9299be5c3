use Rattle.std.proofs.Common.{◌≡◌, take}
use Rattle.integration_request.specs.Queries.{over_pairs}
use Rattle.integration_request.proofs.queries.over_pairs.Given as goal

-- the pairs so far are those over which the first ones are written
abbrev pub invariant-loop-over : goal.invariant-loop-over
invariant-loop-over l = l.made.items ≡ over_pairs l.initial.made.items (take l.over-index l.overs)
