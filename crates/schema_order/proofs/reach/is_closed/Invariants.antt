use Rattle.std.proofs.Common.{ℕ, ◌<◌}
use Rattle.schema_order.specs.Leads.{AllSeen, IsSeen, edges_of, lists_of}
use Rattle.schema_order.proofs.reach.is_closed.Given as goal

abbrev pub invariant-loop-k : goal.invariant-loop-k
invariant-loop-k l = (j : ℕ) → j < l.k → IsSeen l.seen j → AllSeen l.seen (edges_of (lists_of l.edges) j)
