use Rattle.std.proofs.Common.{◌≡◌, ℕ, ◌||◌, true, false, map, sym, ap, ◌∙◌}
use Rattle.std.specs.BTreeMap.{get}
use Rattle.std.specs.Ordering.{nat_cmp}
use Rattle.json_subset.specs.Tree.{Tree, trees_of}
use Rattle.json_values.specs.Values.{plain_of}
use Rattle.json_distinct.specs.Codes.{code as code_of}
use Rattle.json_distinct.specs.Distinct.{is_in}
use Rattle.json_distinct.specs.Seeing.{is_same_as}
use Rattle.json_distinct.proofs.Sightings.{seen_is}
use Rattle.json_distinct.proofs.seen.is_seen.Goals as goal

pub returns-then-is_coded : goal.returns-then-is_coded
returns-then-is_coded c = λ ids seen.
    let f : ℕ → Tree = plain_of c.args.values.now in
    let coded : is_same_as f (f c.args.k) (get nat_cmp c.args.seen.now.by_code (code_of (f c.args.k))) ≡ true = ap (λ z. is_same_as f (f c.args.k) (get nat_cmp c.args.seen.now.by_code z)) (sym c.requires.code) ∙ sym c.is_coded.ensures ∙ c.if-is_coded.true in
    c.if-is_coded.true
    ∙ sym (ap (λ b. b || is_in (f c.args.k) (trees_of (map f c.args.seen.now.others.items))) coded)
    ∙ seen_is f (f c.args.k) c.args.seen.now.by_code c.args.seen.now.others.items ids c.requires.once seen

pub returns-else-is_coded : goal.returns-else-is_coded
returns-else-is_coded c = λ ids seen.
    let f : ℕ → Tree = plain_of c.args.values.now in
    let coded : is_same_as f (f c.args.k) (get nat_cmp c.args.seen.now.by_code (code_of (f c.args.k))) ≡ false = ap (λ z. is_same_as f (f c.args.k) (get nat_cmp c.args.seen.now.by_code z)) (sym c.requires.code) ∙ sym c.is_coded.ensures ∙ c.if-is_coded.false in
    c.is_in.ensures
    ∙ ap (λ xs. is_in (f c.args.k) (trees_of (map f xs))) c.deref.ensures.value
    ∙ sym (ap (λ b. b || is_in (f c.args.k) (trees_of (map f c.args.seen.now.others.items))) coded)
    ∙ seen_is f (f c.args.k) c.args.seen.now.by_code c.args.seen.now.others.items ids c.requires.once seen
