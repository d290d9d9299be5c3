use Rattle.std.proofs.Common.{◌≡◌, ◌-◌, ◌≤◌, ◌++◌, drop, take, length}
use Rattle.jsonpath_core.specs.Reading.{run, past_run}
use Rattle.jsonpath_core.specs.Spelling.{is_digit}
use Rattle.jsonpath_core.proofs.reader.digits_len.Given as goal

abbrev pub invariant-loop-count : goal.invariant-loop-count
invariant-loop-count l = record {
  within : l.count ≤ length l.bytes;
  front : take l.count l.bytes ++ run is_digit (drop l.count l.bytes) ≡ run is_digit l.bytes;
  rest : past_run is_digit (drop l.count l.bytes) ≡ past_run is_digit l.bytes;
}

abbrev pub decreases-loop-count : goal.decreases-loop-count
decreases-loop-count l = length l.bytes - l.count
