use Rattle.std.proofs.Common.{◌≡◌, map, sym, ap, ◌∙◌, arith}
use Rattle.json_subset.specs.Tree.{no_trees, no_members}
use Rattle.json_subset.specs.Documents.{form, part}
use Rattle.schema_draft4.specs.Faults.{rest_items, rest_members}
use Rattle.schema_draft4.specs.Reading.{item_schemas, member_schemas, keywords}
use Rattle.schema_rules.specs.Rules.{all_of, any_of, one_of}
use Rattle.schema_rules.specs.Views.{named_schema, rule_of, rules_in, unnamed}
use Rattle.schema_draft4.proofs.Parted.{list_rule, each_rule}
use Rattle.schema_draft4.proofs.Rests.{items_all, members_all}
use Rattle.schema_draft4.proofs.read.+schemas.Goals as goal

pub read_items-returns-clause-gives : goal.read_items-returns-clause-gives
read_items-returns-clause-gives t c =
    let f = form (part c.args.doc.now c.args.id) in
    let ends : c.loop-i.i ≡ c.args.count = omega arith in
    let done : rest_items f c.loop-i.i ≡ no_trees = ap (rest_items f) ends ∙ (items_all f c.args.count c.requires.list).1 in
    sym c.loop-i.invariant.so_far ∙ ap (item_schemas (map named_schema c.args.defs.now.list.items) (map unnamed c.loop-i.ids.items) (map rules_in c.loop-i.nodes.items)) done

pub read_members-returns-clause-gives : goal.read_members-returns-clause-gives
read_members-returns-clause-gives t c =
    let f = form (part c.args.doc.now c.args.id) in
    let ends : c.loop-i.i ≡ c.args.count = omega arith in
    let done : rest_members f c.loop-i.i ≡ no_members = ap (rest_members f) ends ∙ (members_all f c.args.count c.requires.object).1 in
    sym c.loop-i.invariant.so_far ∙ ap (member_schemas (map named_schema c.args.defs.now.list.items) (map named_schema c.loop-i.parts.items) (map rules_in c.loop-i.nodes.items)) done

pub read_keywords-returns-clause-gives : goal.read_keywords-returns-clause-gives
read_keywords-returns-clause-gives t c =
    let f = form (part c.args.doc.now c.args.id) in
    let ends : c.loop-i.i ≡ c.args.count = omega arith in
    let done : rest_members f c.loop-i.i ≡ no_members = ap (rest_members f) ends ∙ (members_all f c.args.count c.requires.object).1 in
    sym c.loop-i.invariant.so_far ∙ ap (keywords (map named_schema c.args.defs.now.list.items) c.args.root f (map rule_of c.loop-i.rules.items) (map rules_in c.loop-i.nodes.items)) done

pub read_items_rule-returns-in_ok-read_items-in-Some-clause-gives : goal.read_items_rule-returns-in_ok-read_items-in-Some-clause-gives
read_items_rule-returns-in_ok-read_items-in-Some-clause-gives t c =
    each_rule (map named_schema c.args.defs.now.list.items) (map rules_in c.args.nodes.now.items) _ (part c.args.doc.now c.args.id) c.in-Some.count _ _ c.in-Some.ensures c.in_ok-read_items-in-Some.ensures.gives

pub read_keyword-returns-in_ok-read_full-in-AllOf-clause-gives : goal.read_keyword-returns-in_ok-read_full-in-AllOf-clause-gives
read_keyword-returns-in_ok-read_full-in-AllOf-clause-gives t c = rw c.in-AllOf.is (list_rule all_of _ _ _ c.in_ok-read_full-in-AllOf.ensures.gives)

pub read_keyword-returns-in_ok-read_full-in-AnyOf-clause-gives : goal.read_keyword-returns-in_ok-read_full-in-AnyOf-clause-gives
read_keyword-returns-in_ok-read_full-in-AnyOf-clause-gives t c = rw c.in-AnyOf.is (list_rule any_of _ _ _ c.in_ok-read_full-in-AnyOf.ensures.gives)

pub read_keyword-returns-in_ok-read_full-in-OneOf-clause-gives : goal.read_keyword-returns-in_ok-read_full-in-OneOf-clause-gives
read_keyword-returns-in_ok-read_full-in-OneOf-clause-gives t c = rw c.in-OneOf.is (list_rule one_of _ _ _ c.in_ok-read_full-in-OneOf.ensures.gives)
