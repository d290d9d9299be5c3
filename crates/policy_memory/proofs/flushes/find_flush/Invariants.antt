use Rattle.std.proofs.Common.{◌≡◌, take, None}
use Rattle.policy_memory.specs.Kept.{last_in}
use Rattle.policy_memory.proofs.flushes.find_flush.Given as goal

abbrev pub invariant-loop-i : goal.invariant-loop-i
invariant-loop-i l = last_in (take l.i l.rows) l.api l.stage ≡ None
