use Rattle.std.proofs.Common.{◌≡◌, ◌++◌, drop, map}
use Rattle.schema_order.specs.Leads.{lists_of}
use Rattle.schema_draft4.specs.Cycles.{all_in_place}
use Rattle.schema_rules.specs.Views.{rules_in}
use Rattle.schema_draft4.proofs.link.steps.Given as goal

abbrev pub invariant-loop-node : goal.invariant-loop-node
invariant-loop-node l = lists_of l.steps.items ++ map (all_in_place l.targets) (map rules_in (drop l.node-index l.nodes)) ≡ map (all_in_place l.targets) (map rules_in l.nodes)
