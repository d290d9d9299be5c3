use Rattle.std.proofs.Common.{◌≡◌, ◌<◌, length, ap, sym, ◌∙◌, rules}
use Rattle.json_subset.specs.Grammar.{depth}
use Rattle.json_subset.specs.Documents.{part, form}
use Rattle.json_subset.specs.Tree.{list, object, trees_of, members_of}
use Rattle.json_values.specs.Parts.{items_of, entries_of}
use Rattle.json_values.proofs.Seen.{item_less, entry_less, item_stands, entry_stands, list_form, object_form}
use Rattle.json_values.proofs.Pushing.{extends_trans, item_added, item_below, member_added, member_below}
use Rattle.json_values.proofs.read.+reading.Goals as goal

pub read_item-read_part-requires : goal.read_item-read_part-requires
read_item-read_part-requires t c =
    let less : depth (part c.args.doc.now c.in-Some.item) < depth (part c.args.doc.now c.args.id) = item_less (part c.args.doc.now c.args.id) c.args.i _ c.in-Some.ensures.1 in
    search rules

pub read_item-unreachable-requires : goal.read_item-unreachable-requires
read_item-unreachable-requires t c = item_stands _ _ c.requires.item c.in-None.ensures

pub read_items-loop-i-preserved : goal.read_items-loop-i-preserved
read_items-loop-i-preserved t c = record {
  sound = c.in_ok-k.ensures.sound;
  mirror = c.in_ok-k.ensures.mirror;
  extends = extends_trans _ _ _ c.loop-i.invariant.extends c.in_ok-k.ensures.extends;
  below = rw c.in_ok-push.ensures.items (item_below _ _ _ _ c.in_ok-k.ensures.extends c.loop-i.invariant.below c.in_ok-k.ensures.stands);
  so_far = rw c.in_ok-push.ensures.items (item_added c.args.doc.now _ _ _ _ _ _ c.in_ok-k.ensures.extends c.loop-i.invariant.below c.loop-i.invariant.so_far c.in_ok-k.ensures.source);
}

pub read_member-read_part-requires : goal.read_member-read_part-requires
read_member-read_part-requires t c =
    let less : depth (part c.args.doc.now c.in-Some.value) < depth (part c.args.doc.now c.args.id) = entry_less (part c.args.doc.now c.args.id) c.args.i (c.in-Some.name.now, part c.args.doc.now c.in-Some.value) c.in-Some.ensures.1 in
    search rules

pub read_member-unreachable-requires : goal.read_member-unreachable-requires
read_member-unreachable-requires t c = entry_stands _ _ c.requires.member c.in-None.ensures

pub read_members-loop-i-preserved : goal.read_members-loop-i-preserved
read_members-loop-i-preserved t c = record {
  sound = c.in_ok-member.ensures.sound;
  mirror = c.in_ok-member.ensures.mirror;
  extends = extends_trans _ _ _ c.loop-i.invariant.extends c.in_ok-member.ensures.extends;
  below = rw c.in_ok-push_member.ensures.list (member_below _ _ _ _ c.in_ok-member.ensures.extends c.loop-i.invariant.below c.in_ok-member.ensures.stands);
  indexed = c.in_ok-push_member.ensures.indexed;
  so_far = rw c.in_ok-push_member.ensures.list (member_added c.args.doc.now _ _ _ _ _ _ c.in_ok-member.ensures.extends c.loop-i.invariant.below c.loop-i.invariant.so_far c.in_ok-member.ensures.source);
}

pub read_part-read_items-requires : goal.read_part-read_items-requires
read_part-read_items-requires t c =
    let is = list_form (form (part c.args.doc.now c.args.id)) c.in-List.count (sym c.in-List.ensures) in
    let counted : c.in-List.count ≡ length (items_of (form (part c.args.doc.now c.args.id))) = is.1 in
    search rules

pub read_part-add-requires-in-List-clause-alike : goal.read_part-add-requires-in-List-clause-alike
read_part-add-requires-in-List-clause-alike t c =
    (list_form (form (part c.args.doc.now c.args.id)) c.in-List.count (sym c.in-List.ensures)).0
    ∙ ap (λ z. list (trees_of z)) (sym c.in_ok-ids-in-List.ensures.items)

pub read_part-read_members-requires : goal.read_part-read_members-requires
read_part-read_members-requires t c =
    let is = object_form (form (part c.args.doc.now c.args.id)) c.in-Object.count (sym c.in-Object.ensures) in
    let counted : c.in-Object.count ≡ length (entries_of (form (part c.args.doc.now c.args.id))) = is.1 in
    search rules

pub read_part-add-requires-in-Object-clause-alike : goal.read_part-add-requires-in-Object-clause-alike
read_part-add-requires-in-Object-clause-alike t c =
    (object_form (form (part c.args.doc.now c.args.id)) c.in-Object.count (sym c.in-Object.ensures)).0
    ∙ ap (λ z. object (members_of z)) (sym c.in_ok-members-in-Object.ensures.members)
