use Rattle.std.proofs.Common.{◌≡◌, ◌+◌, ◌≤◌, drop}
use Rattle.vtl_methods.specs.Comparisons.{is_among, looked_through}
use Rattle.vtl_methods.proofs.lists.is_item.Given as goal

abbrev pub invariant-loop-item : goal.invariant-loop-item
invariant-loop-item l = record {
  fits : l.taken ≤ l.room;
  bytes : l.taken + looked_through l.sought (drop l.item-index l.items) ≡ looked_through l.sought l.items;
  same : is_among l.sought (drop l.item-index l.items) ≡ is_among l.sought l.items;
}
