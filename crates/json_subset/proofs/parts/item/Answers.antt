use Rattle.std.proofs.Common.{◌≡◌, ◌∙◌, ◌<◌, ◌≤◌, ℕ, Some, ap, sym, subst, rules, arith, length}
use Rattle.json_subset.specs.Documents.{item_at}
use Rattle.json_subset.specs.Nodes.{tree_of, IsBelow}
use Rattle.json_subset.specs.declared.node.Form.{Form}
use Rattle.json_subset.proofs.ByPlace.{form_is, item_there, item_missing, id_below}
use Rattle.json_subset.proofs.Nodes.{below_more}
use Rattle.json_subset.proofs.parts.item.Goals as goal

pub returns-then-i-len : goal.returns-then-i-len
returns-then-i-len c =
    let e : c.len.result ≡ length c.in-List.ids.items = search rules in
    let h : c.args.i < length c.in-List.ids.items = (let t = c.if-i-len.true in omega (arith, e, t)) in
    let P : Form → Type 0 = IsBelow c.args.k in
    let Q : ℕ → Type 0 = λ z. z < length c.args.nodes.now in
    let stands = c.requires.stands in
    let below = below_more c.args.k (length c.args.nodes.now) c.in-List.ids.items (omega (arith, stands)) (subst P c.in-List.is c.node_at-node.ensures.sound.below) in (
      subst Q (sym c.index.ensures) (id_below (length c.args.nodes.now) c.in-List.ids.items c.args.i c.index.result.now h below),
      ap (λ z. item_at z c.args.i) (form_is c.args.text.now c.args.nodes.now c.args.k c.node_at-node.result.now _ c.node_at-node.ensures.opened c.in-List.is)
          ∙ item_there (tree_of c.args.text.now c.args.nodes.now) c.in-List.ids.items c.args.i c.index.result.now h
          ∙ ap (λ z. Some (tree_of c.args.text.now c.args.nodes.now z)) (sym c.index.ensures),
    )

pub returns-else-i-len : goal.returns-else-i-len
returns-else-i-len c =
    let e : c.len.result ≡ length c.in-List.ids.items = search rules in
    let h : length c.in-List.ids.items ≤ c.args.i = (let t = c.if-i-len.false in omega (arith, e, t)) in
    ap (λ z. item_at z c.args.i) (form_is c.args.text.now c.args.nodes.now c.args.k c.node_at-node.result.now _ c.node_at-node.ensures.opened c.in-List.is)
    ∙ item_missing (tree_of c.args.text.now c.args.nodes.now) c.in-List.ids.items c.args.i h
