use Rattle.std.proofs.Common.{◌≡◌, ◌≤◌, ◌+◌, ◌*◌, length, drop, map}
use Rattle.json_subset.specs.Nodes.{AllBelow, AllValuesBelow}
use Rattle.schema_rules.specs.Cases.{IsKnown, said, schemas_in, value_in, part_in, member_in}
use Rattle.schema_rules.specs.Verdict as says
use Rattle.schema_rules.specs.Views.{AllBefore, AreSoundRules, names_of, named_schema, others_of, rank_of, rule_of}
use Rattle.schema_rules.proofs.judge.+verdicts.Given as goal

abbrev pub decreases-settle : goal.decreases-settle
decreases-settle l = 8 * (l.value * length l.case.now.nodes.now + rank_of l.case.now.nodes.now l.schema) + 6

abbrev pub decreases-judge : goal.decreases-judge
decreases-judge l = 8 * (l.value * length l.case.now.nodes.now + rank_of l.case.now.nodes.now l.schema) + 5

abbrev pub decreases-judge_every : goal.decreases-judge_every
decreases-judge_every l = 8 * (l.value * length l.case.now.nodes.now + rank_of l.case.now.nodes.now l.schema) + 4

abbrev pub decreases-judge_one : goal.decreases-judge_one
decreases-judge_one l = 8 * (l.value * length l.case.now.nodes.now + rank_of l.case.now.nodes.now l.schema) + 3

abbrev pub decreases-judge_all : goal.decreases-judge_all
decreases-judge_all l = 8 * (l.value * length l.case.now.nodes.now + rank_of l.case.now.nodes.now l.schema) + 2

abbrev pub decreases-judge_any : goal.decreases-judge_any
decreases-judge_any l = 8 * (l.value * length l.case.now.nodes.now + rank_of l.case.now.nodes.now l.schema) + 2

abbrev pub decreases-count_valid : goal.decreases-count_valid
decreases-count_valid l = 8 * (l.value * length l.case.now.nodes.now + rank_of l.case.now.nodes.now l.schema) + 2

abbrev pub decreases-judge_items : goal.decreases-judge_items
decreases-judge_items l = 8 * (l.value * length l.case.now.nodes.now) + 2

abbrev pub decreases-judge_in_place : goal.decreases-judge_in_place
decreases-judge_in_place l = 8 * (l.value * length l.case.now.nodes.now) + 2

abbrev pub decreases-judge_additional : goal.decreases-judge_additional
decreases-judge_additional l = 8 * (l.value * length l.case.now.nodes.now) + 2

abbrev pub decreases-judge_unnamed : goal.decreases-judge_unnamed
decreases-judge_unnamed l = 8 * (l.value * length l.case.now.nodes.now) + 2

abbrev pub decreases-judge_properties : goal.decreases-judge_properties
decreases-judge_properties l = 8 * (l.value * length l.case.now.nodes.now) + 2

abbrev pub decreases-judge_property : goal.decreases-judge_property
decreases-judge_property l = 8 * (l.value * length l.case.now.nodes.now) + 1

abbrev pub decreases-judge_others : goal.decreases-judge_others
decreases-judge_others l = 8 * (l.value * length l.case.now.nodes.now + length l.case.now.nodes.now) + 1

abbrev pub invariant-judge_every-loop-rule : goal.invariant-judge_every-loop-rule
invariant-judge_every-loop-rule l = record {
  known : IsKnown l.case l.memo;
  rules : AreSoundRules l.case.nodes.now l.case.targets.now (rank_of l.case.nodes.now l.schema) (drop l.rule-index l.rules);
  so_far : says.every (schemas_in l.case) (said l.case l.value) (value_in l.case l.value) (map rule_of (drop l.rule-index l.rules)) ≡ says.every (schemas_in l.case) (said l.case l.value) (value_in l.case l.value) (map rule_of l.rules);
}

abbrev pub invariant-judge_all-loop-s : goal.invariant-judge_all-loop-s
invariant-judge_all-loop-s l = record {
  known : IsKnown l.case l.memo;
  before : AllBefore l.case.nodes.now (rank_of l.case.nodes.now l.schema) (drop l.s-index l.ids);
  so_far : says.all (said l.case l.value) (drop l.s-index l.ids) ≡ says.all (said l.case l.value) l.ids;
}

abbrev pub invariant-judge_any-loop-s : goal.invariant-judge_any-loop-s
invariant-judge_any-loop-s l = record {
  known : IsKnown l.case l.memo;
  before : AllBefore l.case.nodes.now (rank_of l.case.nodes.now l.schema) (drop l.s-index l.ids);
  so_far : says.any (said l.case l.value) (drop l.s-index l.ids) ≡ says.any (said l.case l.value) l.ids;
}

abbrev pub invariant-count_valid-loop-s : goal.invariant-count_valid-loop-s
invariant-count_valid-loop-s l = record {
  known : IsKnown l.case l.memo;
  before : AllBefore l.case.nodes.now (rank_of l.case.nodes.now l.schema) (drop l.s-index l.ids);
  few : l.count ≤ l.s-index;
  so_far : l.count + says.how_many (said l.case l.value) (drop l.s-index l.ids) ≡ says.how_many (said l.case l.value) l.ids;
}

abbrev pub invariant-judge_items-loop-i : goal.invariant-judge_items-loop-i
invariant-judge_items-loop-i l = record {
  known : IsKnown l.case l.memo;
  below : AllBelow l.value (drop l.i-index l.ids);
  so_far : says.each_item l.schema (map (part_in l.case) (drop l.i-index l.ids)) ≡ says.each_item l.schema (map (part_in l.case) l.ids);
}

abbrev pub invariant-judge_additional-loop-i : goal.invariant-judge_additional-loop-i
invariant-judge_additional-loop-i l = record {
  known : IsKnown l.case l.memo;
  below : AllBelow l.value (drop l.i-index l.ids);
  so_far : says.each_additional (others_of l.others) (map (part_in l.case) (drop l.i-index l.ids)) ≡ says.each_additional (others_of l.others) (map (part_in l.case) l.ids);
}

abbrev pub invariant-judge_unnamed-loop-member : goal.invariant-judge_unnamed-loop-member
invariant-judge_unnamed-loop-member l = record {
  known : IsKnown l.case l.memo;
  below : AllValuesBelow l.value (drop l.member-index l.members);
  so_far : says.each_unnamed (names_of l.names) (others_of l.others) (map (member_in l.case) (drop l.member-index l.members)) ≡ says.each_unnamed (names_of l.names) (others_of l.others) (map (member_in l.case) l.members);
}

abbrev pub invariant-judge_properties-loop-property : goal.invariant-judge_properties-loop-property
invariant-judge_properties-loop-property l = record {
  known : IsKnown l.case l.memo;
  schemas : AllValuesBelow (length l.case.nodes.now) (drop l.property-index l.properties);
  so_far : says.each_property (map named_schema (drop l.property-index l.properties)) (value_in l.case l.value).members ≡ says.each_property (map named_schema l.properties) (value_in l.case l.value).members;
}

abbrev pub invariant-judge_in_place-loop-schemas : goal.invariant-judge_in_place-loop-schemas
invariant-judge_in_place-loop-schemas l = record {
  known : IsKnown l.case l.memo;
  schemas : AllBelow (length l.case.nodes.now) l.schemas;
  below : AllBelow l.value l.ids;
  so_far : says.each_in_place l.schemas (map (part_in l.case) l.ids) ≡ says.each_in_place l.fn.schemas (map (part_in l.case) l.fn.ids);
}

abbrev pub decreases-judge_in_place-loop-schemas : goal.decreases-judge_in_place-loop-schemas
decreases-judge_in_place-loop-schemas l = length l.schemas

abbrev pub decreases-settle-loop-left : goal.decreases-settle-loop-left
decreases-settle-loop-left l = l.left

abbrev pub invariant-settle-loop-left : goal.invariant-settle-loop-left
invariant-settle-loop-left l = record {
  known : IsKnown l.case l.memo;
  within : l.left ≤ length l.chain.items;
}
