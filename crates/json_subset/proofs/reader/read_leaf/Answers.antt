use Rattle.std.proofs.Common.{◌∙◌, ◌-◌, ap, sym, arith, Ok, length, take}
use Rattle.json_subset.specs.Tree.{node}
use Rattle.json_subset.specs.Turns.{leaf, whole}
use Rattle.json_subset.specs.Nodes.{tree_of, nothing}
use Rattle.json_subset.proofs.Fronts.{scalar_behind}
use Rattle.json_subset.proofs.Nodes.{form_alike, form_below}
use Rattle.json_subset.proofs.Spans.{known}
use Rattle.json_subset.proofs.reader.read_leaf.Goals as goal

pub add-requires-clause-inside : goal.add-requires-clause-inside
add-requires-clause-inside c = (known _ _ _ (scalar_behind (length c.args.text.now) c.args.bytes.now c.requires.front.utf8) c.in_ok-form.ensures.gives).rest

pub add-requires-clause-below : goal.add-requires-clause-below
add-requires-clause-below c = form_below _ c.in_ok-form.form c.in_ok-form.ensures.below

pub returns-clause-gives : goal.returns-clause-gives
returns-clause-gives c =
    ap (leaf (length c.args.text.now) (length c.args.text.now - length c.args.bytes.now)) c.in_ok-form.ensures.gives
    ∙ ap (λ f. Ok (whole (node (length c.args.text.now - length c.args.bytes.now) (length c.args.text.now - length c.in_ok-form.rest.now) f) c.in_ok-form.rest.now))
    (form_alike (take (length c.args.bytes.now - length c.in_ok-form.rest.now) c.args.bytes.now) (λ _. nothing) (tree_of c.args.text.now c.args.nodes.now.items) 0 c.in_ok-form.form (λ j h. absurd (omega (arith, h))) c.in_ok-form.ensures.below)
    ∙ ap (λ t. Ok (whole t c.in_ok-form.rest.now)) (sym c.in_ok-k.ensures.tree)
