use Rattle.std.proofs.Common.{◌≡◌, ◌≤◌, ◌+◌, length}
use Rattle.script_records.specs.Coding.{lines_of}
use Rattle.play_script.specs.Play.{opening_from, opening_of}
use Rattle.play_script.proofs.opening.open.Given as goal

-- the lines that were passed over told nothing
abbrev pub invariant-lines : goal.invariant-lines
invariant-lines l = record {
  opening : opening_of l.script ≡ opening_from l.number (lines_of l.rest);
  count : l.number + length l.rest ≤ length l.script + 1;
}

abbrev pub decreases-lines : goal.decreases-lines
decreases-lines l = length l.rest
