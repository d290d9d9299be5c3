use Rattle.std.proofs.Common.{◌≡◌, ◌≤◌, ◌+◌, count_by, drop}
use Rattle.load_command.specs.Summary.{is_of_canary}
use Rattle.load_command.proofs.summary.count_canary.Given as goal

-- those so far, and those of the entries that are left, are those of all
abbrev pub invariant-loop-entry : goal.invariant-loop-entry
invariant-loop-entry l = record {
  counted : l.taken + count_by is_of_canary (drop l.entry-index l.history) ≡ count_by is_of_canary l.history;
  bound : l.taken ≤ l.entry-index;
}
