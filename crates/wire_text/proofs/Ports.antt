-- The numbers of ports.
use Rattle.std.proofs.Common.{◌≡◌, ◌<◌, ◌≤◌, ◌⊎◌, inl, inr, ℕ, List, [], ◌∷◌, length, refl}
use Rattle.jsonpath_core.proofs.Numerals.{past}
use Rattle.json_subset.specs.Numbers.{value_from}

not_none : (d : ℕ) (ds : List ℕ) → d ∷ ds ≡ [] → ⊥
not_none d ds e = cc

-- digits that are not read are none, or do not fit
pub past_or_none : (ds : List ℕ) → ((0 < length ds) × (value_from 0 ds < 65536) → ⊥) → (ds ≡ []) ⊎ (65536 ≤ value_from 0 ds)
past_or_none [] over = inl refl
past_or_none (d ∷ ds) over = inr (past (d ∷ ds) (value_from 0 (d ∷ ds)) 65536 (not_none d ds) over)
