use Rattle.std.proofs.Common.{◌≡◌, ◌∙◌, ◌-◌, ap, rules, arith, length}
use Rattle.json_subset.specs.Tree.{node}
use Rattle.json_subset.specs.Nodes.{form_of, tree_of}
use Rattle.json_subset.proofs.Nodes.{keeps_push, tree_push}
use Rattle.json_subset.proofs.Places.{span_ordered, span_source, span_front, span_back}
use Rattle.json_subset.proofs.reader.add.Goals as goal

pub returns-clause-kept : goal.returns-clause-kept
returns-clause-kept c =
    rw (c.in_ok-push.ensures.items, c.place.ensures, c.place-2.ensures)
    (keeps_push _ _ _ c.requires.sound (record {
      below = c.requires.below;
      counted = c.requires.counted;
      indexed = c.requires.indexed;
      ordered = span_ordered _ _ _ c.requires.utf8 c.requires.front c.requires.inside;
      within = omega arith;
      front = span_front _ _ _ c.requires.utf8 c.requires.front c.requires.inside;
      back = span_back _ _ _ c.requires.utf8 c.requires.front c.requires.inside;
    }))

pub returns-clause-tree : goal.returns-clause-tree
returns-clause-tree c =
    let at : c.len-k.result ≡ length c.args.nodes.now.items = search rules in
    rw (c.in_ok-push.ensures.items, c.place.ensures, c.place-2.ensures, at)
    (tree_push c.args.text.now c.args.nodes.now.items _ c.requires.sound (record {
      below = c.requires.below;
      counted = c.requires.counted;
      indexed = c.requires.indexed;
      ordered = span_ordered _ _ _ c.requires.utf8 c.requires.front c.requires.inside;
      within = omega arith;
      front = span_front _ _ _ c.requires.utf8 c.requires.front c.requires.inside;
      back = span_back _ _ _ c.requires.utf8 c.requires.front c.requires.inside;
    })
    ∙ ap (λ z. node (length c.args.text.now - length c.args.from.now) (length c.args.text.now - length c.args.rest.now) (form_of z (tree_of c.args.text.now c.args.nodes.now.items) c.args.form)) (span_source _ _ _ c.requires.utf8 c.requires.front c.requires.inside))
