use Rattle.std.proofs.Common.{◌≡◌, ◌++◌, drop}
use Rattle.integration_request.specs.Queries.{others}
use Rattle.integration_request.proofs.queries.others.Given as goal

-- the others so far, and those of the pairs that are left, are those of all
abbrev pub invariant-loop-pair : goal.invariant-loop-pair
invariant-loop-pair l = l.made.items ++ others (drop l.pair-index l.asked) l.mapped ≡ others l.asked l.mapped
