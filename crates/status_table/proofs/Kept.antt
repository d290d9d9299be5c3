-- A table more among those that are kept.
use Rattle.std.proofs.Common.{◌≡◌, ℕ, Bool, true, false, List, Some, IfSome, refl, sym, subst}
use Rattle.std.specs.Prelude.{String, if◌then◌else◌}
use Rattle.std.specs.BTreeMap.{BTreeMap, get_by_text}
use Rattle.std.specs.Map.{update}
use Rattle.std.specs.Str.{bytes_eq}
use Rattle.std.specs.declared.alloc.Global.{Global}
use Rattle.std.proofs.lemmas.Slice.Eq.{bytes_eq-Decides}
use Rattle.status_table.specs.Keeping.{AreOfPatterns}
use Rattle.status_table.specs.Statuses.{is_whole_pattern}

pub kept_more : (old new : BTreeMap (String Global) (List ℕ)) (p : List ℕ) → AreOfPatterns old → is_whole_pattern p ≡ true
    → ((q : List ℕ) → get_by_text new q ≡ update bytes_eq (get_by_text old) p (Some p) q) → AreOfPatterns new
kept_more old new p kept whole updated q = subst (λ o. IfSome o (λ table. (table ≡ q) × (is_whole_pattern q ≡ true))) (sym (updated q)) (go (bytes_eq p q) refl)
  where
    go : (b : Bool) → bytes_eq p q ≡ b → IfSome (if b then Some p else get_by_text old q) (λ table. (table ≡ q) × (is_whole_pattern q ≡ true))
    go true e = let same : p ≡ q = (bytes_eq-Decides p q).0 e in (same, subst (λ z. is_whole_pattern z ≡ true) same whole)
    go false e = kept q
