use Rattle.std.proofs.Common.{◌≡◌, ◌++◌, drop}
use Rattle.stage_canary.specs.Canaries.{overridden_pairs}
use Rattle.stage_canary.proofs.merging.override_all.Given as goal

-- what is made so far, and what the rest gives, are all
abbrev pub invariant-loop-pair : goal.invariant-loop-pair
invariant-loop-pair l = l.pairs.items ++ overridden_pairs (drop l.pair-index l.stage) l.canary ≡ overridden_pairs l.stage l.canary
