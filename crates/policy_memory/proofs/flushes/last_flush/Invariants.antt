use Rattle.std.proofs.Common.{◌≡◌, drop}
use Rattle.policy_memory.specs.Kept.{last_in}
use Rattle.policy_memory.proofs.flushes.last_flush.Given as goal

abbrev pub invariant-loop-row : goal.invariant-loop-row
invariant-loop-row l = last_in (drop l.row-index l.rows) l.api l.stage ≡ last_in l.rows l.api l.stage
