use Rattle.std.proofs.Common.{◌≡◌, ◌+◌, ◌-◌, ◌≤◌, drop, length}
use Rattle.vtl_grammar.specs.Strings.{run_len}
use Rattle.vtl_words.proofs.fronts.run_len.Given as goal

abbrev pub invariant-loop-n : goal.invariant-loop-n
invariant-loop-n l = (l.n ≤ length l.bs) × (run_len l.names l.bs ≡ l.n + run_len l.names (drop l.n l.bs))

abbrev pub decreases-loop-n : goal.decreases-loop-n
decreases-loop-n l = length l.bs - l.n
