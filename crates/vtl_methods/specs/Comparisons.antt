-- Whether a value is among others, looked for in order up to the first equal one.
use Rattle.std.specs.Prelude.{ℕ, ◌+◌, Bool, true, false, List, [], ◌∷◌, if◌then◌else◌}
use Rattle.vtl_values.specs.Val.{Val}
use Rattle.vtl_values.specs.Operations.{are_equal, compared}

abbrev pub is_among : Val → List Val → Bool
is_among v [] = false
is_among v (x ∷ xs) = if are_equal x v then true else is_among v xs

-- the bytes of the texts of these comparisons
abbrev pub looked_through : Val → List Val → ℕ
looked_through v [] = 0
looked_through v (x ∷ xs) = compared x v + (if are_equal x v then 0 else looked_through v xs)
