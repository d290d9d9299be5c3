use Rattle.std.proofs.Common.{◌≡◌, length}
use Rattle.vtl_grammar.specs.Bytes.{after}
use Rattle.vtl_words.proofs.bytes.after.Given as goal

abbrev pub invariant-loop-left : goal.invariant-loop-left
invariant-loop-left l = after l.left l.rest ≡ after l.word l.bs

abbrev pub decreases-loop-left : goal.decreases-loop-left
decreases-loop-left l = length l.left
