use Rattle.std.proofs.Common.{◌≡◌, ◌<◌, ℕ, length}
use Rattle.std.specs.List.{All}
use Rattle.resource_tree.specs.Matching.{path_at}
use Rattle.resource_tree.specs.Order.{HasPath}
use Rattle.resource_tree.proofs.order.in_order.Given as goal

abbrev pub invariant-loop-path : goal.invariant-loop-path
invariant-loop-path l = record {
  each : All (λ entry. (entry.path < length l.paths) × (entry.parts.now ≡ path_at l.paths entry.path)) l.entries.items;
  all : (k : ℕ) → k < l.path → HasPath l.entries.items k;
}
