use Rattle.std.proofs.Common.{◌≡◌, ◌++◌, drop}
use Rattle.stage_canary.specs.Canaries.{other_pairs}
use Rattle.stage_canary.proofs.merging.add_others.Given as goal

-- what stands so far, and what the rest adds, are all
abbrev pub invariant-loop-pair : goal.invariant-loop-pair
invariant-loop-pair l = l.pairs.items ++ other_pairs l.stage (drop l.pair-index l.canary) ≡ l.fn.pairs.items ++ other_pairs l.stage l.canary
