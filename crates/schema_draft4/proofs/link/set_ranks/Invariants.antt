use Rattle.std.proofs.Common.{◌≡◌, map}
use Rattle.schema_rules.specs.Made.{AreWellMade}
use Rattle.schema_rules.specs.Views.{rules_in}
use Rattle.schema_draft4.proofs.link.set_ranks.Given as goal

abbrev pub invariant-loop-k : goal.invariant-loop-k
invariant-loop-k l = record {
  rules : map rules_in l.nodes.items ≡ map rules_in l.fn.nodes.items;
  made : AreWellMade l.nodes.items;
}
