use Rattle.std.proofs.Common.{ℕ, Option, drop, map}
use Rattle.schema_draft4.specs.Cycles.{references_in}
use Rattle.schema_draft4.specs.Links.{IsFirst, linked_by}
use Rattle.schema_rules.specs.Views.{rule_of}
use Rattle.schema_draft4.proofs.cycle.back_among.Given as goal

abbrev pub invariant-loop-rule : goal.invariant-loop-rule
invariant-loop-rule l = (o : Option ℕ) → IsFirst (linked_by l.links) (references_in l.k (map rule_of (drop l.rule-index l.rules))) o → IsFirst (linked_by l.links) (references_in l.k (map rule_of l.rules)) o
