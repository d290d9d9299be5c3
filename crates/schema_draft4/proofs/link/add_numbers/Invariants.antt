use Rattle.std.proofs.Common.{◌≡◌, ◌++◌, drop, map}
use Rattle.schema_rules.specs.Views.{named_schema}
use Rattle.schema_draft4.proofs.link.add_numbers.Given as goal

abbrev pub invariant-loop-part : goal.invariant-loop-part
invariant-loop-part l = l.targets.items ++ map (λ p. p.1) (map named_schema (drop l.part-index l.parts)) ≡ l.fn.targets.items ++ map (λ p. p.1) (map named_schema l.parts)
