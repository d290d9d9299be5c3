use Rattle.std.proofs.Common.{◌≡◌, ◌-◌, ◌≤◌, ◌++◌, drop, take, length}
use Rattle.json_subset.specs.Strings.{run, past_run}
use Rattle.json_subset.proofs.strings.run_len.Given as goal

abbrev pub invariant-loop-count : goal.invariant-loop-count
invariant-loop-count l = record {
  within : l.count ≤ length l.bytes;
  run : take l.count l.bytes ++ run (drop l.count l.bytes) ≡ run l.bytes;
  behind : past_run (drop l.count l.bytes) ≡ past_run l.bytes;
}

abbrev pub decreases-loop-count : goal.decreases-loop-count
decreases-loop-count l = length l.bytes - l.count
