use Rattle.std.proofs.Common.{◌≡◌, ◌≤◌, ◌-◌, drop, take, length}
use Rattle.vtl_grammar.specs.Bytes.{until_word}
use Rattle.vtl_words.specs.Views.{before}
use Rattle.vtl_words.proofs.bytes.until_word.Given as goal

abbrev pub invariant-loop-n : goal.invariant-loop-n
invariant-loop-n l = (l.n ≤ length l.bs) × (before (take l.n l.bs) (until_word l.word (drop l.n l.bs)) ≡ until_word l.word l.bs)

abbrev pub decreases-loop-n : goal.decreases-loop-n
decreases-loop-n l = length l.bs - l.n
