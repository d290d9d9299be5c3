use Rattle.std.proofs.Common.{◌≡◌, ◌<◌, length, ap, sym, ◌∙◌, rules, ◌∷◌, ◌++◌, []}
use Rattle.std.proofs.lemmas.Result.{IfOk-weaker}
use Rattle.json_subset.specs.Grammar.{depth}
use Rattle.json_subset.specs.Documents.{part, form, span}
use Rattle.json_values.specs.Parts.{items_of, entries_of}
use Rattle.json_values.proofs.Seen.{item_less, entry_less, item_stands, entry_stands, list_form, object_form}
use Rattle.vtl_values.specs.Making.{listed, mapped}
use Rattle.vtl_values.specs.Val.{number}
use Rattle.gateway_vars.specs.Documents.{value_of}
use Rattle.gateway_vars.proofs.Values.{decimal_value, wide_value, list_made, object_made, more_items, more_members}
use Rattle.gateway_vars.proofs.documents.+values.Goals as goal

pub item_value-node_value-requires : goal.item_value-node_value-requires
item_value-node_value-requires t c =
    let less : depth (part c.args.doc.now c.in-Some.item) < depth (part c.args.doc.now c.args.id) = item_less (part c.args.doc.now c.args.id) c.args.i _ c.in-Some.ensures.1 in
    search rules

pub item_value-unreachable-requires : goal.item_value-unreachable-requires
item_value-unreachable-requires t c = item_stands _ _ c.requires.item c.in-None.ensures

pub member_value-node_value-requires : goal.member_value-node_value-requires
member_value-node_value-requires t c =
    let less : depth (part c.args.doc.now c.in-Some.value) < depth (part c.args.doc.now c.args.id) = entry_less (part c.args.doc.now c.args.id) c.args.i (c.in-Some.name.now, part c.args.doc.now c.in-Some.value) c.in-Some.ensures.1 in
    search rules

pub member_value-unreachable-requires : goal.member_value-unreachable-requires
member_value-unreachable-requires t c = entry_stands _ _ c.requires.member c.in-None.ensures

pub list_value-item_value-requires : goal.list_value-item_value-requires
list_value-item_value-requires t c =
    let counted : c.args.count ≡ length (items_of (form (part c.args.doc.now c.args.id))) = (list_form (form (part c.args.doc.now c.args.id)) c.args.count c.requires.kind).1 in
    search rules

pub list_value-loop-i-preserved : goal.list_value-loop-i-preserved
list_value-loop-i-preserved t c =
    let item = c.in_ok-value.ensures in
    c.in_ok-push.ensures.ok
    ∙ ap (λ v. c.loop-i.items ++ v ∷ []) item.2
    ∙ more_items (form (part c.args.doc.now c.args.id)) c.loop-i.i item.0 c.loop-i.items item.1 c.loop-i.invariant

pub list_value-returns : goal.list_value-returns
list_value-returns t c =
    let made : listed c.loop-i.items ≡ value_of (part c.args.doc.now c.args.id) = list_made (part c.args.doc.now c.args.id) c.args.count c.loop-i.items c.requires.kind (search rules) in
    IfOk-weaker c.close.result (λ v. v ≡ listed c.loop-i.items) (λ v. v ≡ value_of (part c.args.doc.now c.args.id)) (λ v is. is ∙ made) c.close.ensures

pub object_value-member_value-requires : goal.object_value-member_value-requires
object_value-member_value-requires t c =
    let counted : c.args.count ≡ length (entries_of (form (part c.args.doc.now c.args.id))) = (object_form (form (part c.args.doc.now c.args.id)) c.args.count c.requires.kind).1 in
    search rules

pub object_value-loop-i-preserved : goal.object_value-loop-i-preserved
object_value-loop-i-preserved t c =
    let member = c.in_ok-member.ensures in
    c.in_ok-put_member.ensures
    ∙ ap (λ m. c.loop-i.members ++ m ∷ []) member.2
    ∙ more_members (form (part c.args.doc.now c.args.id)) c.loop-i.i member.0 c.loop-i.members member.1 c.loop-i.invariant

pub object_value-returns : goal.object_value-returns
object_value-returns t c =
    let made : mapped c.loop-i.members ≡ value_of (part c.args.doc.now c.args.id) = object_made (part c.args.doc.now c.args.id) c.args.count c.loop-i.members c.requires.kind (search rules) in
    IfOk-weaker c.close.result (λ v. v ≡ mapped c.loop-i.members) (λ v. v ≡ value_of (part c.args.doc.now c.args.id)) (λ v is. is ∙ made) c.close.ensures

pub node_value-returns-in-Decimal : goal.node_value-returns-in-Decimal
node_value-returns-in-Decimal t c =
    IfOk-weaker c.number_value.result (λ v. v ≡ number (span c.args.doc.now.text (part c.args.doc.now c.args.id))) (λ v. v ≡ value_of (part c.args.doc.now c.args.id)) (λ v is. is ∙ sym (decimal_value c.args.doc.now c.args.id (sym c.in-Decimal.ensures))) c.number_value.ensures

pub node_value-returns-in-Wide : goal.node_value-returns-in-Wide
node_value-returns-in-Wide t c =
    IfOk-weaker c.number_value-in-Wide.result (λ v. v ≡ number (span c.args.doc.now.text (part c.args.doc.now c.args.id))) (λ v. v ≡ value_of (part c.args.doc.now c.args.id)) (λ v is. is ∙ sym (wide_value c.args.doc.now c.args.id (sym c.in-Wide.ensures))) c.number_value-in-Wide.ensures
