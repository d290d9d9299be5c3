-- The rule that is chosen.
use Rattle.std.proofs.Common.{◌≡◌, ℕ, Bool, true, false, cond, List, [], ◌∷◌, ◌++◌, All, Option, Some, None, ap, ◌∙◌, refl}
use Rattle.std.proofs.lemmas.List.Elements.{All-tail}
use Rattle.std.specs.List.{find}
use native.Mathlib.Omega.{arith}
use Rattle.api_model.specs.Getters.{or_second}
use Rattle.api_parts.specs.declared.parts.ResponseRule.{ResponseRule}
use Rattle.integration_flow.specs.Choosing.{chosen, is_default, is_for}
use Rattle.integration_flow.specs.Laws.{ChoosesTheFirst, FallsToTheDefault}

-- what passes behind those that do not is found
found : (p : ResponseRule → Bool) (before after : List ResponseRule) (rule : ResponseRule) → All (λ r. p r ≡ false) before → p rule ≡ true → find p (before ++ rule ∷ after) ≡ Some rule
found p [] after rule none takes = ap (λ b. cond b (Some rule) (find p after)) takes
found p (r ∷ before) after rule none takes = ap (λ b. cond b (Some r) (find p (before ++ rule ∷ after))) (none 0 r (omega arith)) ∙ found p before after rule (All-tail (λ q. p q ≡ false) r before none) takes

nothing : (p : ResponseRule → Bool) (rules : List ResponseRule) → All (λ r. p r ≡ false) rules → find p rules ≡ None
nothing p [] none = refl
nothing p (r ∷ rules) none = ap (λ b. cond b (Some r) (find p rules)) (none 0 r (omega arith)) ∙ nothing p rules (All-tail (λ q. p q ≡ false) r rules none)

pub chooses_the_first : ChoosesTheFirst
unfolding chosen
chooses_the_first before after rule status none takes = ap (λ o. or_second o (find is_default (before ++ rule ∷ after))) (found (is_for status) before after rule none takes)

pub falls_to_the_default : FallsToTheDefault
unfolding chosen
falls_to_the_default before after rule status none others default =
    ap (λ o. or_second o (find is_default (before ++ rule ∷ after))) (nothing (is_for status) (before ++ rule ∷ after) none)
    ∙ found is_default before after rule others default
