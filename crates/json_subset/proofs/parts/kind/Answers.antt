use Rattle.std.proofs.Common.{◌≡◌, ◌∙◌, ap, sym, rules, length}
use Rattle.json_subset.specs.Documents.{kind}
use Rattle.json_subset.specs.Nodes.{tree_of}
use Rattle.json_subset.specs.declared.doc.Kind.TheVariants as kinds
use Rattle.json_subset.proofs.ByPlace.{form_is, count_map, count_pairs}
use Rattle.json_subset.proofs.parts.kind.Goals as goal

pub returns-in-List : goal.returns-in-List
returns-in-List c =
    let e : c.len.result ≡ length c.in-List.ids.items = search rules in
    ap kinds.List e
    ∙ ap kinds.List (sym (count_map (tree_of c.args.text.now c.args.nodes.now) c.in-List.ids.items))
    ∙ sym (ap kind (form_is c.args.text.now c.args.nodes.now c.args.k c.node_at-node.result.now _ c.node_at-node.ensures.opened c.in-List.is))

pub returns-in-Object : goal.returns-in-Object
returns-in-Object c =
    let e : c.len-in-Object.result ≡ length c.in-Object.members.list.items = search rules in
    ap kinds.Object e
    ∙ ap kinds.Object (sym (count_pairs (tree_of c.args.text.now c.args.nodes.now) c.in-Object.members.list.items))
    ∙ sym (ap kind (form_is c.args.text.now c.args.nodes.now c.args.k c.node_at-node.result.now _ c.node_at-node.ensures.opened c.in-Object.is))
