-- The variables of a render.
use Rattle.std.proofs.Common.{◌≡◌, ℕ, ◌+◌, ◌<◌, ◌≤◌, List, [], ◌∷◌, ◌++◌, length, Bool, true, false, refl, sym, ◌∙◌, ap, slice_set, arith, zero, suc, true≢false}
use Rattle.std.specs.Prelude.{bytes_eq, if◌then◌else◌, slice_index_or}
use Rattle.std.proofs.lemmas.Slice.Eq.{bytes_eq-Decides}
use Rattle.vtl_values.specs.Val.{Val}
use Rattle.vtl_eval.specs.World.{put}
use Rattle.vtl_eval.specs.Views.{names_of, place_of}

both : (b : Bool) (v p r : Val) → (if b then v else r) ≡ (if b then v else (if b then p else r))
both true v p r = refl
both false v p r = refl

-- the first name is the one that is set
hit : (a k y : List ℕ) (v p r : Val) → bytes_eq a k ≡ true → (if bytes_eq a y then v else r) ≡ (if bytes_eq k y then v else (if bytes_eq a y then p else r))
hit a k y v p r h =
    let e : a ≡ k = (bytes_eq-Decides a k).0 h in
    rw e (both (bytes_eq k y) v p r)

-- the first name is another
miss : (a k y : List ℕ) (v p r : Val) → bytes_eq a k ≡ false → (if bytes_eq a y then p else (if bytes_eq k y then v else r)) ≡ (if bytes_eq k y then v else (if bytes_eq a y then p else r))
miss a k y v p r h = go (bytes_eq a y) (bytes_eq k y) refl refl
  where
    go : (s t : Bool) → bytes_eq a y ≡ s → bytes_eq k y ≡ t → (if s then p else (if t then v else r)) ≡ (if t then v else (if s then p else r))
    go true true e f = absurd (true≢false (sym ((bytes_eq-Decides a k).1 ((bytes_eq-Decides a y).0 e ∙ sym ((bytes_eq-Decides k y).0 f))) ∙ h))
    go true false e f = refl
    go false true e f = refl
    go false false e f = refl

-- the name of the entry in this place
abbrev pub name_in : List (List ℕ × Val) → ℕ → List ℕ
name_in [] n = []
name_in (e ∷ es) zero = e.0
name_in (e ∷ es) (suc n) = name_in es n

pub set_at : (es : List (List ℕ × Val)) (k : List ℕ) (v : Val) (y : List ℕ) → place_of es k < length es → names_of (slice_set es (place_of es k) (name_in es (place_of es k), v)) y ≡ put (names_of es) k v y
set_at [] k v y = λ h. absurd (omega (arith, h))
set_at (e ∷ es) k v y = go (bytes_eq e.0 k) refl (set_at es k v y)
  where
    go : (b : Bool) → bytes_eq e.0 k ≡ b
        → (place_of es k < length es → names_of (slice_set es (place_of es k) (name_in es (place_of es k), v)) y ≡ put (names_of es) k v y)
        → (if b then 0 else place_of es k + 1) < length (e ∷ es)
        → names_of (slice_set (e ∷ es) (if b then 0 else place_of es k + 1) (name_in (e ∷ es) (if b then 0 else place_of es k + 1), v)) y ≡ put (names_of (e ∷ es)) k v y
    go true q ih h = hit e.0 k y v e.1 (names_of es y) q
    go false q ih h =
        let up : place_of es k + 1 ≡ suc (place_of es k) = omega arith in
        ap (λ n. names_of (slice_set (e ∷ es) n (name_in (e ∷ es) n, v)) y) up
        ∙ ap (λ z. if bytes_eq e.0 y then e.1 else z) (ih (omega (arith, h)))
        ∙ miss e.0 k y v e.1 (names_of es y) q

pub set_end : (es : List (List ℕ × Val)) (k : List ℕ) (v : Val) (y : List ℕ) → length es ≤ place_of es k → names_of (es ++ (k, v) ∷ []) y ≡ put (names_of es) k v y
set_end [] k v y = λ h. refl
set_end (e ∷ es) k v y = go (bytes_eq e.0 k) refl (set_end es k v y)
  where
    go : (b : Bool) → bytes_eq e.0 k ≡ b
        → (length es ≤ place_of es k → names_of (es ++ (k, v) ∷ []) y ≡ put (names_of es) k v y)
        → length (e ∷ es) ≤ (if b then 0 else place_of es k + 1)
        → names_of ((e ∷ es) ++ (k, v) ∷ []) y ≡ put (names_of (e ∷ es)) k v y
    go true q ih h = absurd (omega (arith, h))
    go false q ih h = ap (λ z. if bytes_eq e.0 y then e.1 else z) (ih (omega (arith, h))) ∙ miss e.0 k y v e.1 (names_of es y) q

-- the name of the entry in a place
name_read : (es : List (List ℕ × Val)) (i : ℕ) (d : List ℕ × Val) → i < length es → (slice_index_or es i d).0 ≡ name_in es i
name_read [] i d h = absurd (omega (arith, h))
name_read (e ∷ es) zero d h = refl
name_read (e ∷ es) (suc i) d h = name_read es i d (omega (arith, h))

-- a name is set in its place
pub names_set : (es : List (List ℕ × Val)) (k : List ℕ) (v : Val) (i : ℕ) (e : List ℕ × Val) → i ≡ place_of es k → i < length es → e ≡ slice_index_or es i e → names_of (slice_set es i (e.0, v)) ≡ put (names_of es) k v
names_set es k v i e at h is = rw (ap (λ p. p.0) is ∙ name_read es i e h) (rw at (λ j y. set_at es k v y (rw (← at) h) j))

-- a new name goes to the end
pub names_push : (es : List (List ℕ × Val)) (k : List ℕ) (v : Val) (i : ℕ) → i ≡ place_of es k → length es ≤ i → names_of (es ++ (k, v) ∷ []) ≡ put (names_of es) k v
names_push es k v i at h = λ j y. set_end es k v y (rw (← at) h) j
