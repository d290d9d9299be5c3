use Rattle.std.proofs.Common.{drop}
use Rattle.schema_order.specs.Leads.{AllSeen}
use Rattle.schema_order.proofs.reach.are_seen.Given as goal

abbrev pub invariant-loop-k : goal.invariant-loop-k
invariant-loop-k l = AllSeen l.seen (drop l.k-index l.ks) → AllSeen l.seen l.ks
