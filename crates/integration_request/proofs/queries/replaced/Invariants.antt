use Rattle.std.proofs.Common.{◌≡◌, ◌++◌, drop}
use Rattle.std.specs.Prelude.{if◌then◌else◌}
use Rattle.integration_request.specs.Queries.{replaced, without}
use Rattle.integration_request.proofs.queries.replaced.Given as goal

-- what stands so far, and what the pairs that are left come to, is what all of them come to
abbrev pub invariant-loop-pair : goal.invariant-loop-pair
invariant-loop-pair l = l.made.items ++ (if l.stands then without (drop l.pair-index l.pairs) l.over.0 else replaced (drop l.pair-index l.pairs) l.over) ≡ replaced l.pairs l.over
