use Rattle.std.proofs.Common.{◌≡◌, ◌<◌, ◌+◌, ◌^◌, length}
use Rattle.script_records.specs.Coding.{lines_of}
use Rattle.admin_command.proofs.Going.{Carrying}
use Rattle.admin_command.proofs.carrying.carry_out_lines.Given as goal

abbrev pub invariant-lines : goal.invariant-lines
invariant-lines g l = record {
  carrying : Carrying l.fn.book.base (lines_of l.lines) (g.W.Sink.written l.fn.output) (g.W.Sink.written l.output) l.number l.book.history (lines_of l.rest);
  base : l.book.base ≡ l.fn.book.base;
  count : l.number + length l.rest < 2 ^ 64;
  kept : g.W.Sink.faults l.output ≡ g.W.Sink.faults l.fn.output;
}

abbrev pub decreases-lines : goal.decreases-lines
decreases-lines g l = length l.rest
