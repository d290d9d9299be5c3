use Rattle.std.proofs.Common.{ap, ◌∙◌, subst}
use Rattle.json_subset.specs.Documents.{part, root_tree}
use Rattle.api_parts.specs.Reading.{ReadsAs}
use Rattle.api_resources.specs.Resources.{resource_added}
use Rattle.api_resources.proofs.Pathed.{added_same, told_of}
use Rattle.api_resources.proofs.resources.next_resource.Goals as goal

pub returns-clause-read : goal.returns-clause-read
returns-clause-read c =
    let t = part c.args.doc.now c.args.member.value in
    let same = ap (λ f. resource_added (root_tree c.args.doc.now) f c.args.all.now c.args.member.name.now t) c.own_fault-fault.ensures
    ∙ added_same (root_tree c.args.doc.now) c.args.paths.now c.args.built.now.fault c.args.member.place c.args.all.now c.args.member.name.now t c.requires.told c.requires.place c.requires.within in
    subst (λ q. ReadsAs (λ (_ : Unit {0}). c.add_resource.new.all) q c.add_resource.result) same c.add_resource.ensures

pub returns-clause-told : goal.returns-clause-told
returns-clause-told c =
    let t = part c.args.doc.now c.args.member.value in
    let same = ap (λ f. resource_added (root_tree c.args.doc.now) f c.args.all.now c.args.member.name.now t) c.own_fault-fault.ensures in
    told_of (root_tree c.args.doc.now) c.args.paths.now c.args.built.now.fault c.args.member.place c.args.all.now c.args.member.name.now t c.add_resource.new.all c.add_resource.result c.requires.told (subst (λ q. ReadsAs (λ (_ : Unit {0}). c.add_resource.new.all) q c.add_resource.result) same c.add_resource.ensures)
