use Rattle.std.proofs.Common.{◌≡◌, ◌∙◌, ◌<◌, ◌≤◌, ℕ, Some, ap, sym, subst, rules, arith, length}
use Rattle.std.specs.Prelude.{String}
use Rattle.std.specs.declared.alloc.Global.{Global}
use Rattle.json_subset.specs.Documents.{entry_at}
use Rattle.json_subset.specs.Nodes.{tree_of, IsBelow, member_at}
use Rattle.json_subset.specs.declared.node.Form.{Form}
use Rattle.json_subset.proofs.ByPlace.{form_is, pair_there, pair_missing, value_below}
use Rattle.json_subset.proofs.Nodes.{values_more}
use Rattle.json_subset.proofs.parts.entry.Goals as goal

pub returns-then-i-len : goal.returns-then-i-len
returns-then-i-len c =
    let e : c.len.result ≡ length c.in-Object.members.list.items = search rules in
    let h : c.args.i < length c.in-Object.members.list.items = (let t = c.if-i-len.true in omega (arith, e, t)) in
    let P : Form → Type 0 = IsBelow c.args.k in
    let Q : String Global × ℕ → Type 0 = λ z. z.1 < length c.args.nodes.now in
    let stands = c.requires.stands in
    let below = values_more c.args.k (length c.args.nodes.now) c.in-Object.members.list.items (omega (arith, stands)) (subst P c.in-Object.is c.node_at-node.ensures.sound.below) in (
      subst Q (sym c.index-member.ensures) (value_below (length c.args.nodes.now) c.in-Object.members.list.items c.args.i c.index-member.result.now h below),
      ap (λ z. entry_at z c.args.i) (form_is c.args.text.now c.args.nodes.now c.args.k c.node_at-node.result.now _ c.node_at-node.ensures.opened c.in-Object.is)
          ∙ pair_there (tree_of c.args.text.now c.args.nodes.now) c.in-Object.members.list.items c.args.i c.index-member.result.now h
          ∙ ap (λ z. Some (member_at (tree_of c.args.text.now c.args.nodes.now) z)) (sym c.index-member.ensures)
          ∙ ap (λ z. Some (z, tree_of c.args.text.now c.args.nodes.now c.index-member.result.now.1)) (sym c.as_str.ensures.value),
    )

pub returns-else-i-len : goal.returns-else-i-len
returns-else-i-len c =
    let e : c.len.result ≡ length c.in-Object.members.list.items = search rules in
    let h : length c.in-Object.members.list.items ≤ c.args.i = (let t = c.if-i-len.false in omega (arith, e, t)) in
    ap (λ z. entry_at z c.args.i) (form_is c.args.text.now c.args.nodes.now c.args.k c.node_at-node.result.now _ c.node_at-node.ensures.opened c.in-Object.is)
    ∙ pair_missing (tree_of c.args.text.now c.args.nodes.now) c.in-Object.members.list.items c.args.i h
