-- What is known in the middle of the scan for macros.
use Rattle.std.proofs.Common.{◌≡◌, ℕ, zero, suc, ◌-◌, ◌<◌, List, [], ◌∷◌, ◌++◌, sym, ap, ◌∙◌, arith}
use Rattle.std.proofs.lemmas.List.{append-nil, append_assoc}
use Rattle.vtl_grammar.specs.Macros.{scan, scan_at, scan_on}
use Rattle.vtl_grammar.specs.Macros as says

once : (n : ℕ) (bs : List ℕ) → 0 < n → scan n bs ≡ scan_on (scan (n - 1)) (scan_at bs)
unfolding scan
once zero bs h = absurd (omega (arith, h))
once (suc n) bs h = let e : n ≡ suc n - 1 = omega arith in ap (λ m. scan_on (scan m) (scan_at bs)) e

module _ (n : ℕ) (bs : List ℕ) (names target : List (List ℕ)) (so_far : names ++ scan n bs ≡ target) where
  met : (s : says.Scanned) → 0 < n → scan_at bs ≡ s → names ++ scan_on (scan (n - 1)) s ≡ target
  met s left e = ap (λ z. names ++ scan_on (scan (n - 1)) z) (sym e) ∙ ap (λ z. names ++ z) (sym (once n bs left)) ∙ so_far

  pub at_done : 0 < n → scan_at bs ≡ says.done → names ≡ target
  at_done left e = sym (append-nil names) ∙ met says.done left e

  pub at_passed : (next : List ℕ) → 0 < n → scan_at bs ≡ says.passed next → names ++ scan (n - 1) next ≡ target
  at_passed next left e = met (says.passed next) left e

  pub at_found : (x next : List ℕ) → 0 < n → scan_at bs ≡ says.found x next → (names ++ x ∷ []) ++ scan (n - 1) next ≡ target
  at_found x next left e = append_assoc names (x ∷ []) (scan (n - 1) next) ∙ met (says.found x next) left e

  pub at_end : n ≡ 0 → names ≡ target
  unfolding scan
  at_end e = sym (append-nil names) ∙ ap (λ m. names ++ scan m bs) (sym e) ∙ so_far
