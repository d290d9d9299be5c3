-- Parts of a path.
use Rattle.std.proofs.Common.{◌≡◌, ℕ, suc, ◌-◌, ◌==◌, ◌<◌, true, List, [], ◌∷◌, length, map, take, get_or, refl, ap, sym, ◌∙◌, arith}
use Rattle.std.specs.Borrow.{Bor}
use Rattle.std.proofs.lemmas.List.{take-map, length-map}
use Rattle.method_checks.specs.Segments.{ends_empty, without_last_empty}

abbrev pub texts_of : List (Bor (List ℕ)) → List (List ℕ)
texts_of parts = map (λ (part : Bor (List ℕ)). part.now) parts

-- whether the last part is empty
pub ends_last : (parts : List (Bor (List ℕ))) (d : Bor (List ℕ)) → 0 < length parts → (length (get_or parts (length parts - 1) d).now == 0) ≡ ends_empty (texts_of parts)
ends_last [] d some = absurd (omega arith)
ends_last (p ∷ []) d some = refl
ends_last (p ∷ q ∷ parts) d some =
    let less : suc (suc (length parts)) - 1 ≡ suc (suc (length parts) - 1) = omega arith in
    ap (λ k. length (get_or (p ∷ q ∷ parts) k d).now == 0) less ∙ ends_last (q ∷ parts) d (omega arith)

-- the parts without it
pub without_last : (parts : List (Bor (List ℕ))) → ends_empty (texts_of parts) ≡ true → texts_of (take (length parts - 1) parts) ≡ without_last_empty (texts_of parts)
without_last parts empty = rw empty (rw length-map (sym (take-map (λ (part : Bor (List ℕ)). part.now) (length parts - 1) parts)))
