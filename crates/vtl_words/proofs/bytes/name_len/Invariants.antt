use Rattle.std.proofs.Common.{◌≡◌, ◌+◌, ◌-◌, ◌≤◌, drop, length}
use Rattle.vtl_grammar.specs.Bytes.{front_len, is_name}
use Rattle.vtl_words.proofs.bytes.name_len.Given as goal

abbrev pub invariant-loop-n : goal.invariant-loop-n
invariant-loop-n l = (l.n ≤ length l.bs) × (front_len is_name l.bs ≡ l.n + front_len is_name (drop l.n l.bs))

abbrev pub decreases-loop-n : goal.decreases-loop-n
decreases-loop-n l = length l.bs - l.n
