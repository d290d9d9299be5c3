-- Entries with one more, and where the keys stand.
use Rattle.std.proofs.Common.{◌≡◌, ℕ, suc, ◌+◌, ◌<◌, List, [], ◌∷◌, ◌++◌, length, Bool, true, false, Option, Some, None, option_map, is_some, get_or, ◌||◌, refl, sym, ap, ◌∙◌, slice_set, arith, true≢false, subst}
use Rattle.std.specs.Prelude.{if◌then◌else◌}
use Rattle.std.specs.List.{list_any}
use Rattle.std.specs.Str.{bytes_eq}
use Rattle.std.specs.Rc.{rc_str_bytes}
use Rattle.std.specs.declared.rc.RcStr.{RcStr}
use Rattle.std.specs.declared.alloc.Global.{Global}
use Rattle.std.proofs.lemmas.Slice.Eq.{bytes_eq-Decides}
use Rattle.vtl_values.specs.Val.{Val, Entries, null, no_entries, entry}
use Rattle.vtl_values.specs.Vals.{rows_of}
use Rattle.vtl_values.specs.Making.{entered}
use Rattle.vtl_values.specs.Parts.{entry_keys, found}
use Rattle.vtl_values.specs.Places.{place_of}

-- the place of a key that stands behind another
behind : (o : Option ℕ) (n : ℕ) → option_map suc o ≡ Some n → (m : ℕ) × (o ≡ Some m) × (n ≡ suc m)
behind None n e = absurd cc
behind (Some m) n e = (m, refl, go n e)
  where
    go : (n : ℕ) → Some (suc m) ≡ Some n → n ≡ suc m
    go n e = cc

none_behind : (o : Option ℕ) → option_map suc o ≡ None → o ≡ None
none_behind None e = refl
none_behind (Some m) e = absurd cc

-- a key that has a place keeps it
pub row_set : (es : List (RcStr Global × Val)) (k : RcStr Global) (v : Val) (n : ℕ) → place_of (rc_str_bytes k) (rows_of es) ≡ Some n → (n < length es) × (rows_of (slice_set es n (k, v)) ≡ entered (rows_of es) (rc_str_bytes k) v)
row_set [] k v n = λ e. absurd cc
row_set (f ∷ es) k v n = go (bytes_eq (rc_str_bytes f.0) (rc_str_bytes k)) (row_set es k v)
  where
    go : (b : Bool)
        → ((m : ℕ) → place_of (rc_str_bytes k) (rows_of es) ≡ Some m → (m < length es) × (rows_of (slice_set es m (k, v)) ≡ entered (rows_of es) (rc_str_bytes k) v))
        → (if b then Some 0 else option_map suc (place_of (rc_str_bytes k) (rows_of es))) ≡ Some n
        → (n < length (f ∷ es)) × (rows_of (slice_set (f ∷ es) n (k, v)) ≡ (if b then entry (rc_str_bytes k) v (rows_of es) else entry (rc_str_bytes f.0) f.1 (entered (rows_of es) (rc_str_bytes k) v)))
    go true more e =
        let zeroth : 0 ≡ n = cc in
        let P : ℕ → Type 0 = λ i. (i < length (f ∷ es)) × (rows_of (slice_set (f ∷ es) i (k, v)) ≡ entry (rc_str_bytes k) v (rows_of es)) in
        subst P zeroth (omega arith, refl)
    go false more e =
        let found = behind (place_of (rc_str_bytes k) (rows_of es)) n e in
        let rest = more found.0 found.1 in
        let P : ℕ → Type 0 = λ i. (i < length (f ∷ es)) × (rows_of (slice_set (f ∷ es) i (k, v)) ≡ entry (rc_str_bytes f.0) f.1 (entered (rows_of es) (rc_str_bytes k) v)) in
        subst P (sym found.2) (omega (arith, rest.0), ap (entry (rc_str_bytes f.0) f.1) rest.1)

-- a new key goes to the end
pub row_push : (es : List (RcStr Global × Val)) (k : RcStr Global) (v : Val) → place_of (rc_str_bytes k) (rows_of es) ≡ None → rows_of (es ++ (k, v) ∷ []) ≡ entered (rows_of es) (rc_str_bytes k) v
row_push [] k v = λ e. refl
row_push (f ∷ es) k v = go (bytes_eq (rc_str_bytes f.0) (rc_str_bytes k)) (row_push es k v)
  where
    go : (b : Bool)
        → (place_of (rc_str_bytes k) (rows_of es) ≡ None → rows_of (es ++ (k, v) ∷ []) ≡ entered (rows_of es) (rc_str_bytes k) v)
        → (if b then Some 0 else option_map suc (place_of (rc_str_bytes k) (rows_of es))) ≡ None
        → rows_of ((f ∷ es) ++ (k, v) ∷ []) ≡ (if b then entry (rc_str_bytes k) v (rows_of es) else entry (rc_str_bytes f.0) f.1 (entered (rows_of es) (rc_str_bytes k) v))
    go true more e = absurd cc
    go false more e = ap (entry (rc_str_bytes f.0) f.1) (more (none_behind (place_of (rc_str_bytes k) (rows_of es)) e))

-- a new value changes no place
pub places_stay : (es : Entries) (k : List ℕ) (v : Val) (n : ℕ) (q : List ℕ) → place_of k es ≡ Some n → place_of q (entered es k v) ≡ place_of q es
places_stay no_entries k v n q = λ e. absurd cc
places_stay (entry j u es) k v n q = go (bytes_eq j k) refl (λ m. places_stay es k v m q)
  where
    go : (b : Bool) → bytes_eq j k ≡ b → ((m : ℕ) → place_of k es ≡ Some m → place_of q (entered es k v) ≡ place_of q es)
        → (if b then Some 0 else option_map suc (place_of k es)) ≡ Some n
        → place_of q (if b then entry k v es else entry j u (entered es k v)) ≡ (if bytes_eq j q then Some 0 else option_map suc (place_of q es))
    go true same more e =
        let alike : j ≡ k = (bytes_eq-Decides j k).0 same in
        ap (λ z. if bytes_eq z q then Some 0 else option_map suc (place_of q es)) (sym alike)
    go false other more e =
        let found = behind (place_of k es) n e in
        ap (λ z. if bytes_eq j q then Some 0 else option_map suc z) (more found.0 found.1)

-- a new key has the place behind all others
pub places_grow : (es : List (RcStr Global × Val)) (k : List ℕ) (v : Val) (q : List ℕ) → place_of k (rows_of es) ≡ None
    → place_of q (entered (rows_of es) k v) ≡ (if bytes_eq k q then Some (length es) else place_of q (rows_of es))
places_grow [] k v q = λ e. refl
places_grow (f ∷ es) k v q = go (bytes_eq (rc_str_bytes f.0) k) refl (places_grow es k v q)
  where
    pick : (s t : Bool) (o : Option ℕ) → (s ≡ true → t ≡ true → ⊥)
        → (if s then Some 0 else option_map suc (if t then Some (length es) else o)) ≡ (if t then Some (length (f ∷ es)) else (if s then Some 0 else option_map suc o))
    pick true true o apart = absurd (apart refl refl)
    pick true false o apart = refl
    pick false true o apart = refl
    pick false false o apart = refl

    go : (b : Bool) → bytes_eq (rc_str_bytes f.0) k ≡ b
        → (place_of k (rows_of es) ≡ None → place_of q (entered (rows_of es) k v) ≡ (if bytes_eq k q then Some (length es) else place_of q (rows_of es)))
        → (if b then Some 0 else option_map suc (place_of k (rows_of es))) ≡ None
        → place_of q (if b then entry k v (rows_of es) else entry (rc_str_bytes f.0) f.1 (entered (rows_of es) k v))
        ≡ (if bytes_eq k q then Some (length (f ∷ es)) else (if bytes_eq (rc_str_bytes f.0) q then Some 0 else option_map suc (place_of q (rows_of es))))
    go true same more e = absurd cc
    go false other more e =
        ap (λ z. if bytes_eq (rc_str_bytes f.0) q then Some 0 else option_map suc z) (more (none_behind (place_of k (rows_of es)) e))
        ∙ pick (bytes_eq (rc_str_bytes f.0) q) (bytes_eq k q) (place_of q (rows_of es))
        (λ s t. true≢false (sym ((bytes_eq-Decides (rc_str_bytes f.0) k).1 ((bytes_eq-Decides (rc_str_bytes f.0) q).0 s ∙ sym ((bytes_eq-Decides k q).0 t))) ∙ other))

-- a key that has a place is that of the entry there
pub row_found : (es : List (RcStr Global × Val)) (k : List ℕ) (n : ℕ) (e : RcStr Global × Val) → place_of k (rows_of es) ≡ Some n → e ≡ get_or es n e → found k (rows_of es) ≡ e.1
row_found [] k n e = λ at. absurd cc
row_found (f ∷ es) k n e = go (bytes_eq (rc_str_bytes f.0) k) (λ m. row_found es k m e)
  where
    go : (b : Bool) → ((m : ℕ) → place_of k (rows_of es) ≡ Some m → e ≡ get_or es m e → found k (rows_of es) ≡ e.1)
        → (if b then Some 0 else option_map suc (place_of k (rows_of es))) ≡ Some n → e ≡ get_or (f ∷ es) n e → (if b then f.1 else found k (rows_of es)) ≡ e.1
    go true more at is =
        let zeroth : 0 ≡ n = cc in
        let P : ℕ → Type 0 = λ i. e ≡ get_or (f ∷ es) i e in
        ap (λ z. z.1) (sym (subst P (sym zeroth) is))
    go false more at is =
        let after = behind (place_of k (rows_of es)) n at in
        let P : ℕ → Type 0 = λ i. e ≡ get_or (f ∷ es) i e in
        more after.0 after.1 (subst P after.2 is)

pub row_within : (es : List (RcStr Global × Val)) (k : List ℕ) (n : ℕ) → place_of k (rows_of es) ≡ Some n → n < length es
row_within [] k n = λ at. absurd cc
row_within (f ∷ es) k n = go (bytes_eq (rc_str_bytes f.0) k) (row_within es k)
  where
    go : (b : Bool) → ((m : ℕ) → place_of k (rows_of es) ≡ Some m → m < length es) → (if b then Some 0 else option_map suc (place_of k (rows_of es))) ≡ Some n → n < length (f ∷ es)
    go true more at = let zeroth : 0 ≡ n = cc in omega (arith, zeroth)
    go false more at =
        let after = behind (place_of k (rows_of es)) n at in
        omega (arith, after.2, more after.0 after.1)

-- a key without a place is none of the entries'
pub none_found : (es : Entries) (k : List ℕ) → place_of k es ≡ None → found k es ≡ null
none_found no_entries k = λ at. refl
none_found (entry j v es) k = go (bytes_eq j k) (none_found es k)
  where
    go : (b : Bool) → (place_of k es ≡ None → found k es ≡ null) → (if b then Some 0 else option_map suc (place_of k es)) ≡ None → (if b then v else found k es) ≡ null
    go true more at = absurd cc
    go false more at = more (none_behind (place_of k es) at)

-- the keys that have a place are those of the entries
pub key_placed : (es : Entries) (k : List ℕ) → is_some (place_of k es) ≡ list_any (λ j. bytes_eq j k) (entry_keys es)
key_placed no_entries k = refl
key_placed (entry j v es) k = go (bytes_eq j k) (key_placed es k)
  where
    moved : (o : Option ℕ) → is_some (option_map suc o) ≡ is_some o
    moved None = refl
    moved (Some n) = refl

    go : (b : Bool) → is_some (place_of k es) ≡ list_any (λ i. bytes_eq i k) (entry_keys es) → is_some (if b then Some 0 else option_map suc (place_of k es)) ≡ (b || list_any (λ i. bytes_eq i k) (entry_keys es))
    go true more = refl
    go false more = moved (place_of k es) ∙ more

-- the place of a key behind n entries, one entry after the other
pub place_first : (o : Option ℕ) → o ≡ option_map (λ k. 0 + k) o
place_first None = refl
place_first (Some k) = ap Some (let q : k ≡ 0 + k = omega arith in q)

pub place_here : (es : List (RcStr Global × Val)) (f : RcStr Global × Val) (k : List ℕ) (n : ℕ) → bytes_eq (rc_str_bytes f.0) k ≡ true → option_map (λ i. n + i) (place_of k (rows_of (f ∷ es))) ≡ Some n
place_here es f k n e = rw e (ap Some (let q : n + 0 ≡ n = omega arith in q))

pub place_behind : (es : List (RcStr Global × Val)) (f : RcStr Global × Val) (k : List ℕ) (n : ℕ) → bytes_eq (rc_str_bytes f.0) k ≡ false → option_map (λ i. n + i) (place_of k (rows_of (f ∷ es))) ≡ option_map (λ i. n + 1 + i) (place_of k (rows_of es))
place_behind es f k n e = rw e (moved (place_of k (rows_of es)))
  where
    moved : (o : Option ℕ) → option_map (λ i. n + i) (option_map suc o) ≡ option_map (λ i. n + 1 + i) o
    moved None = refl
    moved (Some i) = ap Some (let q : n + suc i ≡ n + 1 + i = omega arith in q)
