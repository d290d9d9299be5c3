use Rattle.std.proofs.Common.{◌≡◌, length}
use Rattle.vtl_grammar.specs.Bytes.{blanks}
use Rattle.vtl_words.proofs.bytes.blanks.Given as goal

abbrev pub invariant-loop-rest : goal.invariant-loop-rest
invariant-loop-rest l = blanks l.rest ≡ blanks l.bs

abbrev pub decreases-loop-rest : goal.decreases-loop-rest
decreases-loop-rest l = length l.rest
