use Rattle.std.proofs.Common.{ℕ, ◌<◌}
use Rattle.schema_order.specs.Leads.{edges_of, lists_of}
use Rattle.schema_order.specs.Ranks.{IsBlocked, IsWaiting}
use Rattle.schema_order.proofs.ranks.next_ready.Given as goal

abbrev pub invariant-loop-k : goal.invariant-loop-k
invariant-loop-k l = (j : ℕ) → j < l.k → IsWaiting l.ranks j → IsBlocked l.ranks (edges_of (lists_of l.edges) j)
