use Rattle.std.proofs.Common.{◌≡◌, ◌-◌, ◌≤◌, ◌++◌, drop, take, length}
use Rattle.jsonpath_core.specs.Reading.{run, past_run}
use Rattle.jsonpath_core.specs.Spelling.{is_name_byte}
use Rattle.jsonpath_core.proofs.reader.name_len.Given as goal

abbrev pub invariant-loop-count : goal.invariant-loop-count
invariant-loop-count l = record {
  within : l.count ≤ length l.bytes;
  front : take l.count l.bytes ++ run is_name_byte (drop l.count l.bytes) ≡ run is_name_byte l.bytes;
  rest : past_run is_name_byte (drop l.count l.bytes) ≡ past_run is_name_byte l.bytes;
}

abbrev pub decreases-loop-count : goal.decreases-loop-count
decreases-loop-count l = length l.bytes - l.count
