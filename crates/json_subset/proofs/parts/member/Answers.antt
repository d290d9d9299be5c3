use Rattle.std.proofs.Common.{sym, subst, arith, length, Option, ℕ}
use Rattle.json_subset.specs.Nodes.{tree_of, IsBelow, IsIndexed}
use Rattle.json_subset.specs.declared.node.Form.{Form}
use Rattle.json_subset.proofs.ByPlace.{form_is, Named, named_there, named_found}
use Rattle.json_subset.proofs.Nodes.{values_more}
use Rattle.json_subset.proofs.parts.member.Goals as goal

pub returns-in-Object : goal.returns-in-Object
returns-in-Object c =
    let P : Form → Type 0 = IsBelow c.args.k in
    let Q : Option ℕ → Type 0 = Named (length c.args.nodes.now) (tree_of c.args.text.now c.args.nodes.now) c.in-Object.members.list.items c.args.name.now in
    let stands = c.requires.stands in
    let below = values_more c.args.k (length c.args.nodes.now) c.in-Object.members.list.items (omega (arith, stands)) (subst P c.in-Object.is c.node_at-node.ensures.sound.below) in
    named_found (length c.args.nodes.now) (tree_of c.args.text.now c.args.nodes.now) c.in-Object.members.list.items c.args.name.now _ c.number_of.result
    (form_is c.args.text.now c.args.nodes.now c.args.k c.node_at-node.result.now _ c.node_at-node.ensures.opened c.in-Object.is)
    (subst Q (sym c.number_of.ensures) (named_there (length c.args.nodes.now) (tree_of c.args.text.now c.args.nodes.now) c.in-Object.members.list.items c.args.name.now below))

pub number_of-requires : goal.number_of-requires
number_of-requires c =
    let P : Form → Type 0 = IsIndexed in
    subst P c.in-Object.is c.node_at-node.ensures.sound.indexed
