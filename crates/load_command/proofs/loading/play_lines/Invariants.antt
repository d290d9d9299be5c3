use Rattle.std.proofs.Common.{◌≡◌, ◌≤◌, ◌+◌, length}
use Rattle.script_records.specs.Coding.{lines_of}
use Rattle.load_command.proofs.Going.{Going}
use Rattle.load_command.proofs.loading.play_lines.Given as goal

abbrev pub invariant-lines : goal.invariant-lines
invariant-lines g l = record {
  going : Going l.fn.session.base 1 l.fn.session.history (lines_of l.lines) l.number l.session.history (lines_of l.rest);
  base : l.session.base ≡ l.fn.session.base;
  count : l.number + length l.rest ≤ length l.lines + 1;
}

abbrev pub decreases-lines : goal.decreases-lines
decreases-lines g l = length l.rest
