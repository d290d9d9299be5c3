use Rattle.std.proofs.Common.{◌≡◌, drop}
use Rattle.book_rules.specs.Good.{names_differ}
use Rattle.book_opening.proofs.stages.names_differ.Given as goal

-- whether all names differ is whether those of the rest do
abbrev pub invariant-loop-i : goal.invariant-loop-i
invariant-loop-i l = names_differ l.pairs ≡ names_differ (drop l.i l.pairs)
