-- What holds of the rule that a status selects.
use Rattle.std.specs.Prelude.{◌≡◌, ℕ, true, false, List, ◌∷◌, ◌++◌, All, Some}
use Rattle.api_parts.specs.declared.parts.ResponseRule.{ResponseRule}
use Rattle.integration_flow.specs.Choosing.{chosen, is_default, is_for}

-- a rule that takes the status is chosen, where none before it takes it
abbrev pub ChoosesTheFirst : Type 0
ChoosesTheFirst = (before after : List ResponseRule) (rule : ResponseRule) (status : ℕ) → All (λ r. is_for status r ≡ false) before → is_for status rule ≡ true → chosen (before ++ rule ∷ after) status ≡ Some rule

-- one without a pattern is chosen where no rule at all takes the status, and none before it is without a pattern
abbrev pub FallsToTheDefault : Type 0
FallsToTheDefault = (before after : List ResponseRule) (rule : ResponseRule) (status : ℕ)
    → All (λ r. is_for status r ≡ false) (before ++ rule ∷ after) → All (λ r. is_default r ≡ false) before → is_default rule ≡ true → chosen (before ++ rule ∷ after) status ≡ Some rule
