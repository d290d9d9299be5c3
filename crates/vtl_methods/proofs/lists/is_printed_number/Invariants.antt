use Rattle.std.proofs.Common.{◌≡◌, ◌+◌, ◌≤◌, map}
use Rattle.vtl_values.specs.Val.{whole}
use Rattle.vtl_values.specs.Ranges.{span, distance}
use Rattle.vtl_methods.specs.Comparisons.{is_among, looked_through}
use Rattle.vtl_methods.proofs.lists.is_printed_number.Given as goal

abbrev pub invariant-loop-found : goal.invariant-loop-found
invariant-loop-found l = record {
  fits : l.taken ≤ l.room;
  bytes : l.taken + looked_through l.sought (map whole (span l.number l.last)) ≡ looked_through l.sought (map whole (span l.first l.last));
  same : is_among l.sought (map whole (span l.number l.last)) ≡ is_among l.sought (map whole (span l.first l.last));
}

abbrev pub decreases-loop-found : goal.decreases-loop-found
decreases-loop-found l = distance l.number l.last
