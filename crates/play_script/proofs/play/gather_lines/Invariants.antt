use Rattle.std.proofs.Common.{◌≡◌, ◌<◌, ◌+◌, ◌^◌, length}
use Rattle.std.specs.String.{string_bytes}
use Rattle.script_records.specs.Coding.{lines_of}
use Rattle.play_script.proofs.Playing.{Playing}
use Rattle.play_script.proofs.play.gather_lines.Given as goal

abbrev pub invariant-lines : goal.invariant-lines
invariant-lines g l = record {
  playing : Playing l.fn.session.base l.fn.number (lines_of l.lines) (g.W.Sink.written l.fn.output) (g.W.Sink.written l.output) (string_bytes l.gathered) l.number l.session.history (lines_of l.rest);
  base : l.session.base ≡ l.fn.session.base;
  count : l.number + length l.rest < 2 ^ 64;
  kept : g.W.Sink.faults l.output ≡ g.W.Sink.faults l.fn.output;
}

abbrev pub decreases-lines : goal.decreases-lines
decreases-lines g l = length l.rest
