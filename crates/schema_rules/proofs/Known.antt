-- One more verdict.
use Rattle.std.proofs.Common.{◌≡◌, ℕ, Bool, true, false, cond, Option, Some, None, sym, ap, ◌∙◌, subst, refl, unwrap_or}
use Rattle.std.specs.Option.{IfSome}
use Rattle.std.specs.Ordering.{is_eq, nat_cmp}
use Rattle.std.specs.declared.cmp.Ordering.{Ordering}
use Rattle.std.specs.declared.cmp.Ordering.TheVariants.{Less, Equal, Greater}
use Rattle.std.specs.BTreeMap.{BTreeMap, get, Updates, is_at}
use Rattle.std.proofs.lemmas.Map.Lookups.{exact_pairs, exact_unsigned}
use Rattle.schema_rules.specs.Cases.{pair_cmp, IsKnown, IsRight, Says}
use Rattle.schema_rules.specs.Views.{NamesPart}
use Rattle.schema_rules.specs.declared.case.Case.{Case}
use Rattle.schema_rules.specs.declared.verdict.Verdict.{Verdict}

equal : (r : Ordering) → is_eq r ≡ true → r ≡ Equal
equal Equal e = refl
equal Less e = cc
equal Greater e = cc

some_inj : {A : Type 0} (x y : A) → Some x ≡ Some y → x ≡ y
some_inj {A = A} x y e = let out : Option A → A = λ o. unwrap_or o x in ap out e

pub known_insert : (c : Case) (m n : BTreeMap (ℕ × ℕ) Verdict) (key : ℕ × ℕ) (w : Verdict) → IsKnown c m → Says c w key.0 key.1 → NamesPart c.doc.now w → Updates pair_cmp m n key (Some w) → IsKnown c n
known_insert c m n key w known says part u q v e = go (is_at (pair_cmp key) q) refl (u.0 q)
  where
    go : (b : Bool) → is_at (pair_cmp key) q ≡ b → get pair_cmp n q ≡ cond b (Some w) (get pair_cmp m q) → IsRight c v q.0 q.1
    go false at g = known q v (sym g ∙ e)
    go true at g =
        let same : key ≡ q = exact_pairs nat_cmp nat_cmp exact_unsigned exact_unsigned key q (equal (pair_cmp key q) at) in
        let P : Verdict → Type 0 = λ z. IsRight c z q.0 q.1 in
        let Q : ℕ × ℕ → Type 0 = λ z. Says c w z.0 z.1 in
        subst P (some_inj w v (sym g ∙ e)) (record { says = subst Q same says; part = part })

pub recalled : (c : Case) (m : BTreeMap (ℕ × ℕ) Verdict) (i k : ℕ) (o : Option Verdict) → IsKnown c m → o ≡ get pair_cmp m (i, k) → IfSome o (λ v. Says c v i k)
recalled c m i k None known e = tt
recalled c m i k (Some v) known e = (known (i, k) v (sym e)).says

pub recalled_part : (c : Case) (m : BTreeMap (ℕ × ℕ) Verdict) (i k : ℕ) (o : Option Verdict) → IsKnown c m → o ≡ get pair_cmp m (i, k) → IfSome o (λ v. NamesPart c.doc.now v)
recalled_part c m i k None known e = tt
recalled_part c m i k (Some v) known e = (known (i, k) v (sym e)).part

pub known_kept : (c : Case) (m n : BTreeMap (ℕ × ℕ) Verdict) → n.entries ≡ m.entries → IsKnown c m → IsKnown c n
known_kept c m n same known = λ q v e.
    let as_before : get pair_cmp n q ≡ get pair_cmp m q = cc in
    known q v (sym as_before ∙ e)
