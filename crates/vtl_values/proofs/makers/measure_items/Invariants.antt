use Rattle.std.proofs.Common.{◌≡◌, ◌+◌, ◌-◌, ◌^◌, ◌≤◌, min, max, drop}
use Rattle.vtl_values.specs.Val.{vals_of, vals_depth, vals_bytes}
use Rattle.vtl_values.proofs.makers.measure_items.Given as goal

abbrev pub invariant-loop-item : goal.invariant-loop-item
invariant-loop-item l = record {
  depth : max l.size.depth (vals_depth (vals_of (drop l.item-index l.items))) ≡ vals_depth (vals_of l.items);
  bytes : min (l.size.bytes + vals_bytes (vals_of (drop l.item-index l.items))) (2 ^ 64 - 1) ≡ min (vals_bytes (vals_of l.items)) (2 ^ 64 - 1);
  shallow : l.size.depth ≤ 64;
  small : l.size.bytes ≤ 2 ^ 64 - 1;
}
