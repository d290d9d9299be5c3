use Rattle.std.proofs.Common.{◌≡◌, max, drop}
use Rattle.book_rules.specs.Machine.{latest_of}
use Rattle.book_core.proofs.start.latest_of.Given as goal

-- the greatest so far and that of what is left are that of all
abbrev pub invariant-loop-row : goal.invariant-loop-row
invariant-loop-row l = max l.latest (latest_of (drop l.row-index l.rows)) ≡ latest_of l.rows
