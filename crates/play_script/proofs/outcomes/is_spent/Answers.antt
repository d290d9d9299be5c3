use Rattle.std.proofs.Common.{◌≡◌, ◌≢◌, ℕ, List, [], ◌∷◌, ◌++◌, sym, subst, refl}
use Rattle.std.specs.Bool.{MatchBool}
use Rattle.play_script.proofs.outcomes.is_spent.Goals as goal

some_left : (xs ys : List ℕ) → xs ≢ [] → xs ++ ys ≢ []
some_left [] ys some e = some refl
some_left (x ∷ xs) ys some e = cc

pub returns-else-is_empty : goal.returns-else-is_empty
returns-else-is_empty c =
    let xs = c.args.rest.now.bytes in
    let ys = c.args.source.now in
    subst (λ b. MatchBool b (xs ++ ys ≡ []) (xs ++ ys ≢ [])) (sym c.if-is_empty.false)
    (some_left xs ys (subst (λ b. MatchBool b (xs ≡ []) (xs ≢ [])) c.if-is_empty.false c.is_empty.ensures))
