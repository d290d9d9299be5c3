use Rattle.std.proofs.Common.{◌≡◌, ◌+◌, ◌-◌, ◌^◌, ◌≤◌, min, max, drop}
use Rattle.vtl_values.specs.Val.{entries_depth, entries_bytes}
use Rattle.vtl_values.specs.Vals.{rows_of}
use Rattle.vtl_values.proofs.makers.measure_entries.Given as goal

abbrev pub invariant-loop-entry : goal.invariant-loop-entry
invariant-loop-entry l = record {
  depth : max l.size.depth (entries_depth (rows_of (drop l.entry-index l.entries))) ≡ entries_depth (rows_of l.entries);
  bytes : min (l.size.bytes + entries_bytes (rows_of (drop l.entry-index l.entries))) (2 ^ 64 - 1) ≡ min (entries_bytes (rows_of l.entries)) (2 ^ 64 - 1);
  shallow : l.size.depth ≤ 64;
  small : l.size.bytes ≤ 2 ^ 64 - 1;
}
