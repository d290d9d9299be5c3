use Rattle.std.proofs.Common.{◌≡◌, ◌++◌, drop, map}
use Rattle.schema_draft4.specs.Cycles.{all_in_place}
use Rattle.schema_rules.specs.Views.{rule_of}
use Rattle.schema_draft4.proofs.link.steps_of.Given as goal

abbrev pub invariant-loop-rule : goal.invariant-loop-rule
invariant-loop-rule l = l.steps.items ++ all_in_place l.targets (map rule_of (drop l.rule-index l.rules)) ≡ all_in_place l.targets (map rule_of l.rules)
