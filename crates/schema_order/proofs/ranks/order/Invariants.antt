use Rattle.std.proofs.Common.{◌-◌, length}
use Rattle.schema_order.specs.Leads.{lists_of}
use Rattle.schema_order.specs.Ranks.{AreRankedSoFar}
use Rattle.schema_order.proofs.ranks.order.Given as goal

abbrev pub invariant-loop-k : goal.invariant-loop-k
invariant-loop-k l = AreRankedSoFar (lists_of l.edges) l.ranks.items l.next

abbrev pub invariant-loop-next : goal.invariant-loop-next
invariant-loop-next l = AreRankedSoFar (lists_of l.edges) l.ranks.items l.next

abbrev pub decreases-loop-next : goal.decreases-loop-next
decreases-loop-next l = length l.edges - l.next
