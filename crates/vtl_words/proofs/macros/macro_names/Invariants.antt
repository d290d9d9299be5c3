use Rattle.std.proofs.Common.{◌≡◌, ◌+◌, ◌++◌, length}
use Rattle.vtl_grammar.specs.Macros.{scan}
use Rattle.vtl_words.proofs.macros.macro_names.Given as goal

abbrev pub invariant-loop-fuel : goal.invariant-loop-fuel
invariant-loop-fuel l = l.names ++ scan l.fuel l.rest ≡ scan (length l.bs + 1) l.bs

abbrev pub decreases-loop-fuel : goal.decreases-loop-fuel
decreases-loop-fuel l = l.fuel
