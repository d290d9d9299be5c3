use Rattle.std.proofs.Common.{◌≡◌, ℕ, ◌<◌, map, take, Some, None}
use Rattle.resource_tree.specs.Faults.{fault_at}
use Rattle.resource_tree.specs.Matching.{IsTable}
use Rattle.resource_tree.specs.Reading.{parts_of}
use Rattle.resource_tree.proofs.paths.read_paths.Given as goal

-- the paths so far are read, and none of them has a fault
abbrev pub invariant-loop-i : goal.invariant-loop-i
invariant-loop-i l = record {
  parts : map (λ parts. Some parts) l.read.items ≡ map parts_of (take l.i l.paths);
  sound : (k : ℕ) → k < l.i → fault_at l.paths k ≡ None;
  table : IsTable l.read.items;
}
