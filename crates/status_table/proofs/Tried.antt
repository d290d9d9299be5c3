-- One status more that a pattern was tried on.
use Rattle.std.proofs.Common.{◌≡◌, ℕ, ◌+◌, ◌<◌, Bool, false, List, [], ◌∷◌, ◌++◌, get_or, length, ap, sym, ◌∙◌, arith, inl, inr}
use Rattle.std.proofs.lemmas.Bool.{cases_lt}
use Rattle.std.proofs.lemmas.List.{get_or_append_left, get_or_push}
use Rattle.status_table.specs.Statuses.{takes}

pub answer_more : (p : List ℕ) (n : ℕ) (xs : List Bool) (b : Bool) → length xs ≡ n → ((k : ℕ) → k < n → get_or xs k false ≡ takes p (100 + k))
    → b ≡ takes p (100 + n) → (k : ℕ) → k < n + 1 → get_or (xs ++ b ∷ []) k false ≡ takes p (100 + k)
answer_more p n xs b count before now k small = elim (cases_lt k n) [
  | inl lt ↦ get_or_append_left xs (b ∷ []) false k (omega (arith, lt, count)) ∙ before k lt
  | inr ge ↦ (let e : k ≡ n = omega (arith, ge, small) in get_or_push xs b false k (count ∙ sym e) ∙ now ∙ ap (λ z. takes p (100 + z)) (sym e))
]
