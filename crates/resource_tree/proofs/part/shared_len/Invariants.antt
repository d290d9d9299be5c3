use Rattle.std.proofs.Common.{◌≡◌, ◌≤◌, length, take}
use Rattle.resource_tree.proofs.part.shared_len.Given as goal

abbrev pub invariant-loop-p : goal.invariant-loop-p
invariant-loop-p l = record {
  count : l.shared ≡ length l.yielded;
  first : l.shared ≤ length l.first;
  second : l.shared ≤ length l.second;
  same : take l.shared l.first ≡ take l.shared l.second;
}
