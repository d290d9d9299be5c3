use Rattle.std.proofs.Common.{◌≡◌, length}
use Rattle.vtl_grammar.specs.Bytes.{white}
use Rattle.vtl_words.proofs.bytes.white.Given as goal

abbrev pub invariant-loop-rest : goal.invariant-loop-rest
invariant-loop-rest l = white l.rest ≡ white l.bs

abbrev pub decreases-loop-rest : goal.decreases-loop-rest
decreases-loop-rest l = length l.rest
