use Rattle.std.proofs.Common.{◌≡◌, ◌≤◌, length}
use Rattle.vtl_grammar.specs.Numbers.{decimal}
use Rattle.vtl_words.proofs.numbers.decimal.Given as goal

abbrev pub invariant-loop-rest : goal.invariant-loop-rest
invariant-loop-rest l = (decimal l.n l.rest ≡ decimal 0 l.digits) × (l.n ≤ 9223372036854775808)

abbrev pub decreases-loop-rest : goal.decreases-loop-rest
decreases-loop-rest l = length l.rest
