use Rattle.std.proofs.Common.{◌≡◌, ◌∷◌, ℕ, false, Some, sym, ap, subst, ◌∙◌}
use Rattle.std.specs.Prelude.{cond, is_some}
use Rattle.std.specs.BTreeMap.{BTreeMap, get, is_at}
use Rattle.std.specs.Ordering.{nat_cmp}
use Rattle.json_values.specs.Values.{plain_of}
use Rattle.json_distinct.specs.Codes.{code as code_of}
use Rattle.json_distinct.specs.Seeing.{AreSeen}
use Rattle.json_distinct.proofs.Sightings.{one_other_more, one_code_more}
use Rattle.json_distinct.proofs.seen.see.Goals as goal

pub returns-in_ok-push-clause-seen : goal.returns-in_ok-push-clause-seen
returns-in_ok-push-clause-seen c = λ ids seen.
    subst (λ z. AreSeen (plain_of c.args.values.now) c.args.seen.now.by_code z (c.args.k ∷ ids)) (sym c.in_ok-push.ensures.items) (one_other_more (plain_of c.args.values.now) c.args.k c.args.seen.now.by_code c.args.seen.now.others.items ids seen)

pub returns-in_ok-insert-clause-seen : goal.returns-in_ok-insert-clause-seen
returns-in_ok-insert-clause-seen c = λ ids seen.
    let old : BTreeMap ℕ ℕ = c.args.seen.now.by_code in
    let coded : ℕ = code_of (plain_of c.args.values.now c.args.k) in
    let updates : (q : ℕ) → get nat_cmp c.insert.new.self q ≡ cond (is_at (nat_cmp coded) q) (Some c.args.k) (get nat_cmp old q) = subst (λ (z : ℕ). (q : ℕ) → get nat_cmp c.insert.new.self q ≡ cond (is_at (nat_cmp z) q) (Some c.args.k) (get nat_cmp old q)) c.requires.code c.in_ok-insert.ensures.updates.0 in
    let absent : is_some (get nat_cmp old coded) ≡ false = ap (λ z. is_some (get nat_cmp old z)) (sym c.requires.code) ∙ sym c.contains_key.ensures ∙ c.if-contains_key.false in
    one_code_more (plain_of c.args.values.now) c.args.k old c.insert.new.self c.args.seen.now.others.items ids updates absent seen
