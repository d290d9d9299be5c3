-- The number that digits spell.
use Rattle.std.proofs.Common.{◌≡◌, ◌≢◌, ℕ, ◌<◌, ◌≤◌, ltb, Bool, true, false, List, [], ◌∷◌, length, refl, rules, arith}
use Rattle.std.proofs.lemmas.Str.Parse.{IsNumeralModel, numerals_by_fold}
use Rattle.std.specs.List.{list_all}
use Rattle.json_subset.specs.Numbers.{value_from}
use Rattle.jsonpath_core.specs.Spelling.{is_digit}
use borrow.Author.Tests.{ltb-true, ltb-false}

pub numerals : IsNumeralModel (λ ds. list_all is_digit ds ≡ true) (value_from 0)
numerals = numerals_by_fold _ (search rules) value_from (search rules)

-- digits that do not fit are a number past the limit
pub past : (ds : List ℕ) (v limit : ℕ) → ds ≢ [] → ((0 < length ds) × (v < limit) → ⊥) → limit ≤ v
past [] v limit some over = absurd (some refl)
past (d ∷ ds) v limit some over = by_test (ltb v limit) refl
  where
    by_test : (t : Bool) → ltb v limit ≡ t → limit ≤ v
    by_test true h = absurd (over (omega arith, ltb-true v limit h))
    by_test false h = ltb-false v limit h
