use Rattle.std.proofs.Common.{ℕ}
use Rattle.schema_order.specs.Leads.{IsSeen}
use Rattle.schema_order.proofs.reach.none_seen.Given as goal

abbrev pub invariant-loop : goal.invariant-loop
invariant-loop l = (k : ℕ) → IsSeen l.seen.items k → ⊥
