use Rattle.std.proofs.Common.{length, ◌-◌, ◌≡◌, drop, map}
use Rattle.clap.specs.Words.{app_of}
use Rattle.command_words.specs.Grammar.{line_of, with_leaves}
use Rattle.command_words.proofs.grammar.with_leaves.Given as goal

abbrev pub invariant-loop-i : goal.invariant-loop-i
invariant-loop-i l = (with_leaves (app_of l.command) (map line_of (drop l.i l.rows)) ≡ with_leaves (app_of l.fn.command) (map line_of l.rows))

abbrev pub decreases-loop-i : goal.decreases-loop-i
decreases-loop-i l = length l.rows - l.i
