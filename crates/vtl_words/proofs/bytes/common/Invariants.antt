use Rattle.std.proofs.Common.{◌≡◌, ◌+◌, length}
use Rattle.vtl_grammar.specs.Bytes.{common}
use Rattle.vtl_words.proofs.bytes.common.Given as goal

abbrev pub invariant-loop-left : goal.invariant-loop-left
invariant-loop-left l = (l.n + length l.rest ≡ length l.bs) × (common l.word l.bs ≡ l.n + common l.left l.rest)

abbrev pub decreases-loop-left : goal.decreases-loop-left
decreases-loop-left l = length l.left
