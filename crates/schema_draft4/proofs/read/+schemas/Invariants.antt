use Rattle.std.proofs.Common.{◌≡◌, ◌+◌, ◌*◌, [], map}
use Rattle.json_subset.specs.Documents.{form, part}
use Rattle.json_subset.specs.Grammar.{depth}
use Rattle.schema_draft4.specs.Faults.{rest_items, rest_members}
use Rattle.schema_rules.specs.Made.{AllWellMade, AreWellMade}
use Rattle.schema_draft4.specs.Reading as says
use Rattle.schema_rules.specs.Views.{named_schema, rule_of, rules_in, unnamed}
use Rattle.schema_draft4.proofs.read.+schemas.Given as goal

abbrev pub decreases-read_schema : goal.decreases-read_schema
decreases-read_schema l = 8 * depth (part l.doc.now l.id) + 7

abbrev pub decreases-read_keywords : goal.decreases-read_keywords
decreases-read_keywords l = 8 * depth (part l.doc.now l.id) + 6

abbrev pub decreases-read_member : goal.decreases-read_member
decreases-read_member l = 8 * depth (part l.doc.now l.id) + 13

abbrev pub decreases-read_keyword : goal.decreases-read_keyword
decreases-read_keyword l = 8 * depth (part l.doc.now l.id) + 12

abbrev pub decreases-read_other_properties : goal.decreases-read_other_properties
decreases-read_other_properties l = 8 * depth (part l.doc.now l.id) + 11

abbrev pub decreases-read_other_items : goal.decreases-read_other_items
decreases-read_other_items l = 8 * depth (part l.doc.now l.id) + 11

abbrev pub decreases-read_items_rule : goal.decreases-read_items_rule
decreases-read_items_rule l = 8 * depth (part l.doc.now l.id) + 11

abbrev pub decreases-read_named : goal.decreases-read_named
decreases-read_named l = 8 * depth (part l.doc.now l.id) + 11

abbrev pub decreases-read_full : goal.decreases-read_full
decreases-read_full l = 8 * depth (part l.doc.now l.id) + 11

abbrev pub decreases-read_members : goal.decreases-read_members
decreases-read_members l = 8 * depth (part l.doc.now l.id) + 10

abbrev pub decreases-read_items : goal.decreases-read_items
decreases-read_items l = 8 * depth (part l.doc.now l.id) + 10

abbrev pub invariant-read_keywords-loop-i : goal.invariant-read_keywords-loop-i
invariant-read_keywords-loop-i l = record {
  made : AreWellMade l.nodes.items;
  rules : AllWellMade l.rules.items;
  so_far : says.keywords (map named_schema l.defs.list.items) l.root (form (part l.doc l.id)) (map rule_of l.rules.items) (map rules_in l.nodes.items) (rest_members (form (part l.doc l.id)) l.i) ≡ says.keywords (map named_schema l.defs.list.items) l.root (form (part l.doc l.id)) [] (map rules_in l.fn.nodes.items) (rest_members (form (part l.doc l.id)) 0);
}

abbrev pub invariant-read_members-loop-i : goal.invariant-read_members-loop-i
invariant-read_members-loop-i l = record {
  made : AreWellMade l.nodes.items;
  so_far : says.member_schemas (map named_schema l.defs.list.items) (map named_schema l.parts.items) (map rules_in l.nodes.items) (rest_members (form (part l.doc l.id)) l.i) ≡ says.member_schemas (map named_schema l.defs.list.items) [] (map rules_in l.fn.nodes.items) (rest_members (form (part l.doc l.id)) 0);
}

abbrev pub invariant-read_items-loop-i : goal.invariant-read_items-loop-i
invariant-read_items-loop-i l = record {
  made : AreWellMade l.nodes.items;
  so_far : says.item_schemas (map named_schema l.defs.list.items) (map unnamed l.ids.items) (map rules_in l.nodes.items) (rest_items (form (part l.doc l.id)) l.i) ≡ says.item_schemas (map named_schema l.defs.list.items) [] (map rules_in l.fn.nodes.items) (rest_items (form (part l.doc l.id)) 0);
}
