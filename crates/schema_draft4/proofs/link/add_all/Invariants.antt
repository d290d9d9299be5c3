use Rattle.std.proofs.Common.{◌≡◌, ◌++◌, drop, map}
use Rattle.schema_draft4.specs.Cycles.{all_defined}
use Rattle.schema_rules.specs.Views.{rule_of}
use Rattle.schema_draft4.proofs.link.add_all.Given as goal

abbrev pub invariant-loop-rule : goal.invariant-loop-rule
invariant-loop-rule l = l.targets.items ++ all_defined (map rule_of (drop l.rule-index l.rules)) ≡ l.fn.targets.items ++ all_defined (map rule_of l.rules)
