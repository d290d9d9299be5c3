use Rattle.std.proofs.Common.{◌≡◌, ◌∙◌, ap, refl, rules, length, ◌<◌}
use Rattle.vtl_grammar.specs.Tree as tree
use Rattle.vtl_reader.specs.Nodes.{item_of}
use Rattle.vtl_reader.proofs.Blocking.{text_item_some}
use Rattle.vtl_reader.proofs.Trees.{map_push, items_kept, all_push, ids_more}
use Rattle.vtl_reader.proofs.items.flush.Goals as goal

pub returns-clause-items : goal.returns-clause-items
returns-clause-items c =
    let some : 0 < length c.args.text.now = search rules in
    let same : item_of c.add_item.new.self c.in_ok-k.k ≡ tree.text c.args.text.now = c.in_ok-k.ensures.tree ∙ ap tree.text c.in_ok-text.ensures.ok in
    rw (c.in_ok-push.ensures.items, map_push (item_of c.add_item.new.self) c.args.ids.now.items c.in_ok-k.k, items_kept c.args.arena.now c.add_item.new.self c.in_ok-k.ensures.kept c.args.ids.now.items c.requires.below, same, text_item_some c.args.text.now some) refl

pub returns-clause-below : goal.returns-clause-below
returns-clause-below c = rw c.in_ok-push.ensures.items (all_push _ _ _ (ids_more _ _ _ c.in_ok-k.ensures.kept.more_items c.requires.below) c.in_ok-k.ensures.stands)
