use Rattle.std.proofs.Common.{◌≡◌, ◌∙◌, ap, sym, subst, rules, arith, length, ℕ, Option, Some, None}
use Rattle.std.specs.Prelude.{String}
use Rattle.std.specs.Vec.{vec_len}
use Rattle.std.specs.BTreeMap.{BTreeMap, get_by_text}
use Rattle.std.specs.declared.alloc.Global.{Global}
use Rattle.json_subset.specs.Numbered.{IsIndexOf}
use Rattle.json_subset.proofs.Names.{within, placed, unplaced}
use Rattle.json_subset.proofs.parts.number_of.Goals as goal

pub index-requires : goal.index-requires
index-requires c =
    let P : Option (BTreeMap (String Global) ℕ) → Type 0 = IsIndexOf c.args.members.now.list.items in
    let has : get_by_text c.in-Some.index c.args.name.now ≡ Some c.in-Some-get.place.now = search rules in
    let count : vec_len c.args.members.now.list ≡ length c.args.members.now.list.items = search rules in
    let less = within c.args.members.now.list.items c.args.name.now c.in-Some-get.place.now (sym (subst P c.in-Some.is c.requires c.args.name.now) ∙ has) in
    omega (arith, count, less)

pub returns-in-Some-get : goal.returns-in-Some-get
returns-in-Some-get c =
    let P : Option (BTreeMap (String Global) ℕ) → Type 0 = IsIndexOf c.args.members.now.list.items in
    let has : get_by_text c.in-Some.index c.args.name.now ≡ Some c.in-Some-get.place.now = search rules in
    ap (λ m. Some m.1) c.index.ensures
    ∙ sym (placed c.args.members.now.list.items c.args.name.now c.in-Some-get.place.now c.index.result.now (sym (subst P c.in-Some.is c.requires c.args.name.now) ∙ has))

pub returns-in-None-get : goal.returns-in-None-get
returns-in-None-get c =
    let P : Option (BTreeMap (String Global) ℕ) → Type 0 = IsIndexOf c.args.members.now.list.items in
    let has : get_by_text c.in-Some.index c.args.name.now ≡ None = search rules in
    sym (unplaced c.args.members.now.list.items c.args.name.now (sym (subst P c.in-Some.is c.requires c.args.name.now) ∙ has))
