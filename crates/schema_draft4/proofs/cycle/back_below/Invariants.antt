use Rattle.std.proofs.Common.{ℕ, Option, ◌-◌}
use Rattle.schema_draft4.specs.Cycles.{references, up_from}
use Rattle.schema_draft4.specs.Links.{IsFirst, linked_by}
use Rattle.schema_draft4.proofs.cycle.back_below.Given as goal

abbrev pub invariant-loop-k : goal.invariant-loop-k
invariant-loop-k l = (o : Option ℕ) → IsFirst (linked_by l.links) (references (linked_by l.links) (up_from l.k (l.count - l.k))) o → IsFirst (linked_by l.links) (references (linked_by l.links) (up_from 0 l.count)) o
