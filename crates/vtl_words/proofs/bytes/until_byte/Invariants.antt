use Rattle.std.proofs.Common.{◌≡◌, ◌≤◌, ◌-◌, drop, take, length}
use Rattle.vtl_grammar.specs.Bytes.{until_byte}
use Rattle.vtl_words.specs.Views.{before}
use Rattle.vtl_words.proofs.bytes.until_byte.Given as goal

abbrev pub invariant-loop-n : goal.invariant-loop-n
invariant-loop-n l = (l.n ≤ length l.bs) × (before (take l.n l.bs) (until_byte l.c (drop l.n l.bs)) ≡ until_byte l.c l.bs)

abbrev pub decreases-loop-n : goal.decreases-loop-n
decreases-loop-n l = length l.bs - l.n
