-- Values that were looked at, and one more.
use Rattle.std.proofs.Common.{◌≡◌, ◌⊎◌, inl, inr, ℕ, Bool, true, false, ◌||◌, List, [], ◌∷◌, ◌++◌, map, Option, Some, None, refl, sym, ap, ◌∙◌}
use Rattle.std.specs.Prelude.{if◌then◌else◌, cond, is_some}
use Rattle.std.specs.List.{AllByRecursion}
use Rattle.std.specs.Ordering.{nat_cmp, is_eq}
use Rattle.std.specs.BTreeMap.{BTreeMap, get, is_at}
use Rattle.std.specs.declared.cmp.Ordering.TheVariants.{Equal}
use Rattle.std.specs.Cmp.{nat_cmp_is, Equal-is}
use Rattle.std.specs.FinMap.{nat_cmp-IsAntisymmetric}
use Rattle.json_subset.specs.Tree.{Tree, trees_of}
use Rattle.json_values.specs.Same.{same}
use Rattle.json_distinct.specs.Codes.{code}
use Rattle.json_distinct.specs.Distinct.{is_in, IsOnceNamed}
use Rattle.json_distinct.specs.Seeing.{AreSeen, IsListed, is_same_as}
use Rattle.json_distinct.proofs.Alike.{alike}

-- what is listed and the same is found
listed_is_in : (f : ℕ → Tree) (t : Tree) (ids : List ℕ) (m : ℕ) → IsListed ids m → same t (f m) ≡ true → is_in t (trees_of (map f ids)) ≡ true
listed_is_in f t [] m there e = absurd there
listed_is_in f t (k ∷ ks) m (inl is) e = ap (λ b. if b then true else is_in t (trees_of (map f ks))) (ap (λ z. same t (f z)) is ∙ e)
listed_is_in f t (k ∷ ks) m (inr there) e = go (same t (f k)) (listed_is_in f t ks m there e)
  where
    go : (b : Bool) → is_in t (trees_of (map f ks)) ≡ true → (if b then true else is_in t (trees_of (map f ks))) ≡ true
    go true h = refl
    go false h = h

-- and what is found is listed, and the same
found_listed : (f : ℕ → Tree) (t : Tree) (ids : List ℕ) → is_in t (trees_of (map f ids)) ≡ true → (m : ℕ) × IsListed ids m × (same t (f m) ≡ true)
found_listed f t [] e = absurd cc
found_listed f t (k ∷ ks) e = go (same t (f k)) refl e (found_listed f t ks)
  where
    go : (b : Bool) → same t (f k) ≡ b → (if b then true else is_in t (trees_of (map f ks))) ≡ true → (is_in t (trees_of (map f ks)) ≡ true → (m : ℕ) × IsListed ks m × (same t (f m) ≡ true))
        → (m : ℕ) × IsListed (k ∷ ks) m × (same t (f m) ≡ true)
    go true is h rest = (k, inl refl, is)
    go false is h rest = let r = rest h in (r.0, inr r.1, r.2)

is_same_found : (f : ℕ → Tree) (t : Tree) (o : Option ℕ) → is_same_as f t o ≡ true → (m : ℕ) × (o ≡ Some m) × (same t (f m) ≡ true)
is_same_found f t None e = absurd cc
is_same_found f t (Some m) e = (m, refl, e)

-- a listed one that is the same is remembered
remembered : (f : ℕ → Tree) (t : Tree) (by_code : BTreeMap ℕ ℕ) (others ids : List ℕ) → IsOnceNamed t → AllByRecursion (λ m. (get nat_cmp by_code (code (f m)) ≡ Some m) ⊎ IsListed others m) ids
    → (m : ℕ) → IsListed ids m → same t (f m) ≡ true → (is_same_as f t (get nat_cmp by_code (code t)) || is_in t (trees_of (map f others))) ≡ true
remembered f t by_code others [] once each m there e = absurd there
remembered f t by_code others (k ∷ ks) once each m (inr there) e = remembered f t by_code others ks once each.1 m there e
remembered f t by_code others (k ∷ ks) once each m (inl is) e = go each.0
  where
    first : same t (f k) ≡ true
    first = ap (λ z. same t (f z)) is ∙ e

    or_true : (b : Bool) → (b || true) ≡ true
    or_true true = refl
    or_true false = refl

    go : (get nat_cmp by_code (code (f k)) ≡ Some k) ⊎ IsListed others k → (is_same_as f t (get nat_cmp by_code (code t)) || is_in t (trees_of (map f others))) ≡ true
    go (inl coded) = ap (λ o. is_same_as f t o || is_in t (trees_of (map f others))) (ap (get nat_cmp by_code) (alike t (f k) once first) ∙ coded) ∙ ap (λ b. b || is_in t (trees_of (map f others))) first
    go (inr listed) = ap (λ b. is_same_as f t (get nat_cmp by_code (code t)) || b) (listed_is_in f t others k listed first) ∙ or_true (is_same_as f t (get nat_cmp by_code (code t)))

both_ways : (a b : Bool) → (a ≡ true → b ≡ true) → (b ≡ true → a ≡ true) → a ≡ b
both_ways true true there back = refl
both_ways true false there back = sym (there refl)
both_ways false true there back = back refl
both_ways false false there back = refl

either : (a b : Bool) → (a || b) ≡ true → (a ≡ true) ⊎ (b ≡ true)
either true b e = inl refl
either false b e = inr e

-- a value is among those that were looked at just where it is the same as the one of its code, or among the others
pub seen_is : (f : ℕ → Tree) (t : Tree) (by_code : BTreeMap ℕ ℕ) (others ids : List ℕ) → IsOnceNamed t → AreSeen f by_code others ids
    → (is_same_as f t (get nat_cmp by_code (code t)) || is_in t (trees_of (map f others))) ≡ is_in t (trees_of (map f ids))
seen_is f t by_code others ids once seen = both_ways _ _ there back
  where
    from : (is_same_as f t (get nat_cmp by_code (code t)) ≡ true) ⊎ (is_in t (trees_of (map f others)) ≡ true) → is_in t (trees_of (map f ids)) ≡ true
    from (inl e) = let r = is_same_found f t (get nat_cmp by_code (code t)) e in listed_is_in f t ids r.0 (seen.coded (code t) r.0 r.1) r.2
    from (inr e) = let r = found_listed f t others e in listed_is_in f t ids r.0 (seen.behind r.0 r.1) r.2

    there : (is_same_as f t (get nat_cmp by_code (code t)) || is_in t (trees_of (map f others))) ≡ true → is_in t (trees_of (map f ids)) ≡ true
    there e = from (either (is_same_as f t (get nat_cmp by_code (code t))) (is_in t (trees_of (map f others))) e)

    back : is_in t (trees_of (map f ids)) ≡ true → (is_same_as f t (get nat_cmp by_code (code t)) || is_in t (trees_of (map f others))) ≡ true
    back e = let r = found_listed f t ids e in remembered f t by_code others ids once seen.each r.0 r.1 r.2

all_map : {P Q : ℕ → Type 0} → ((m : ℕ) → P m → Q m) → (ms : List ℕ) → AllByRecursion P ms → AllByRecursion Q ms
all_map g [] all = tt
all_map g (m ∷ ms) all = (g m all.0, all_map g ms all.1)

some_same : {m n : ℕ} → Some m ≡ Some n → m ≡ n
some_same e = cc

at_itself : (c : ℕ) → is_at (nat_cmp c) c ≡ true
at_itself c = ap is_eq (sym (nat_cmp_is c c Equal refl))

at_same : (c q : ℕ) → is_at (nat_cmp c) q ≡ true → c ≡ q
at_same c q e = nat_cmp-IsAntisymmetric c q ((Equal-is (nat_cmp c q)).0 e)

listed_more : (ks : List ℕ) (k m : ℕ) → IsListed ks m → IsListed (ks ++ k ∷ []) m
listed_more [] k m there = absurd there
listed_more (x ∷ ks) k m (inl is) = inl is
listed_more (x ∷ ks) k m (inr there) = inr (listed_more ks k m there)

listed_last : (ks : List ℕ) (k : ℕ) → IsListed (ks ++ k ∷ []) k
listed_last [] k = inl refl
listed_last (x ∷ ks) k = inr (listed_last ks k)

listed_but_last : (ks : List ℕ) (k m : ℕ) → IsListed (ks ++ k ∷ []) m → (k ≡ m) ⊎ IsListed ks m
listed_but_last [] k m (inl is) = inl is
listed_but_last [] k m (inr there) = absurd there
listed_but_last (x ∷ ks) k m (inl is) = inr (inl is)
listed_but_last (x ∷ ks) k m (inr there) = elim (listed_but_last ks k m there) [
  | inl is ↦ inl is
  | inr at ↦ inr (inr at)
]

-- one more among the others
pub one_other_more : (f : ℕ → Tree) (k : ℕ) (by_code : BTreeMap ℕ ℕ) (others ids : List ℕ) → AreSeen f by_code others ids → AreSeen f by_code (others ++ k ∷ []) (k ∷ ids)
one_other_more f k by_code others ids seen = record {
  each = (inr (listed_last others k), all_map more ids seen.each);
  coded = λ c m e. inr (seen.coded c m e);
  behind = λ m there. elim (listed_but_last others k m there) [ inl is ↦ inl is | inr at ↦ inr (seen.behind m at) ];
}
  where
    more : (m : ℕ) → (get nat_cmp by_code (code (f m)) ≡ Some m) ⊎ IsListed others m → (get nat_cmp by_code (code (f m)) ≡ Some m) ⊎ IsListed (others ++ k ∷ []) m
    more m (inl coded) = inl coded
    more m (inr there) = inr (listed_more others k m there)

-- one more by its code
pub one_code_more : (f : ℕ → Tree) (k : ℕ) (old new : BTreeMap ℕ ℕ) (others ids : List ℕ) → ((q : ℕ) → get nat_cmp new q ≡ cond (is_at (nat_cmp (code (f k))) q) (Some k) (get nat_cmp old q)) → is_some (get nat_cmp old (code (f k))) ≡ false
    → AreSeen f old others ids → AreSeen f new others (k ∷ ids)
one_code_more f k old new others ids updates absent seen = record {
  each = (inl (updates (code (f k)) ∙ ap (λ b. cond b (Some k) (get nat_cmp old (code (f k)))) (at_itself (code (f k)))), all_map more ids seen.each);
  coded = λ c m e. which c m (is_at (nat_cmp (code (f k))) c) (sym (updates c) ∙ e);
  behind = λ m there. inr (seen.behind m there);
}
  where
    which : (c m : ℕ) (b : Bool) → cond b (Some k) (get nat_cmp old c) ≡ Some m → IsListed (k ∷ ids) m
    which c m true e = inl (some_same e)
    which c m false e = inr (seen.coded c m e)

    stays : (m : ℕ) (b : Bool) → is_at (nat_cmp (code (f k))) (code (f m)) ≡ b → get nat_cmp old (code (f m)) ≡ Some m → cond b (Some k) (get nat_cmp old (code (f m))) ≡ Some m
    stays m false at e = e
    stays m true at e = absurd (let there : is_some (get nat_cmp old (code (f k))) ≡ true = ap (λ q. is_some (get nat_cmp old q)) (at_same (code (f k)) (code (f m)) at) ∙ ap is_some e in cc)

    more : (m : ℕ) → (get nat_cmp old (code (f m)) ≡ Some m) ⊎ IsListed others m → (get nat_cmp new (code (f m)) ≡ Some m) ⊎ IsListed others m
    more m (inl e) = inl (updates (code (f m)) ∙ stays m (is_at (nat_cmp (code (f k))) (code (f m))) refl e)
    more m (inr there) = inr there
