-- Lists of keys, and what a cache makes of them that puts each key first.
use Rattle.std.proofs.Common.{◌≡◌, ℕ, zero, suc, Bool, true, false, not, ◌||◌, cond, List, [], ◌∷◌, take, filter, slice_get, Option, Some, None, is_some, refl, sym, ap, subst, ◌∙◌}
use Rattle.std.specs.List.{list_any}
use Rattle.std.specs.Map.{keys_of, lookup, lookup_entry, remove_entry}
use Rattle.std.specs.Option.{option_map_or}
use Rattle.lru.proofs.CallerLemmas.{Contains-lookup_entry}

or-left : (a b : Bool) → (a || b) ≡ false → a ≡ false
or-left false b e = refl
or-left true b e = absurd cc

or-right : (a b : Bool) → (a || b) ≡ false → b ≡ false
or-right false b e = e
or-right true b e = absurd cc

module _ {K : Type 0} (p q : K → Bool) where
  any-filter : (xs : List K) → list_any p xs ≡ false → list_any p (filter q xs) ≡ false
  any-filter [] h = refl
  any-filter (x ∷ xs) h =
      let here : p x ≡ false = or-left (p x) (list_any p xs) h in
      let rest : list_any p (filter q xs) ≡ false = any-filter xs (or-right (p x) (list_any p xs) h) in
      (elim (q x) as (λ b. q x ≡ b → list_any p (filter q (x ∷ xs)) ≡ false) [
        | true ↦ λ t. rw (t, here) rest
        | false ↦ λ t. rw t rest
      ]) refl

-- without the first key that passes
abbrev pub remove_first : {K : Type 0} → (K → Bool) → List K → List K
remove_first test [] = []
remove_first test (x ∷ xs) = cond (test x) xs (x ∷ remove_first test xs)

module _ {K V : Type 0} (test : K → Bool) where
  keys-remove_entry : (es : List (K × V)) → keys_of (remove_entry test es) ≡ remove_first test (keys_of es)
  keys-remove_entry [] = refl
  keys-remove_entry (e ∷ es) = (elim (test e.0) as (λ b. test e.0 ≡ b → keys_of (remove_entry test (e ∷ es)) ≡ remove_first test (keys_of (e ∷ es))) [
    | true ↦ λ t. rw t refl
    | false ↦ λ t. rw t (ap (λ ks. e.0 ∷ ks) (keys-remove_entry es))
  ]) refl

  pub lookup-any : (es : List (K × V)) → list_any test (keys_of es) ≡ is_some (lookup test es)
  lookup-any [] = refl
  lookup-any (e ∷ es) = (elim (test e.0) as (λ b. test e.0 ≡ b → list_any test (keys_of (e ∷ es)) ≡ is_some (lookup test (e ∷ es))) [
    | true ↦ λ t. rw t refl
    | false ↦ λ t. rw t (lookup-any es)
  ]) refl

  entry-any : (es : List (K × V)) → list_any test (keys_of es) ≡ is_some (lookup_entry test es)
  entry-any [] = refl
  entry-any (e ∷ es) = (elim (test e.0) as (λ b. test e.0 ≡ b → list_any test (keys_of (e ∷ es)) ≡ is_some (lookup_entry test (e ∷ es))) [
    | true ↦ λ t. rw t refl
    | false ↦ λ t. rw t (entry-any es)
  ]) refl

  lookup-take : (n : ℕ) (es : List (K × V)) (v : V) → lookup test (take n es) ≡ Some v → lookup test es ≡ Some v
  lookup-take zero es v h = absurd cc
  lookup-take (suc n) [] v h = h
  lookup-take (suc n) (e ∷ es) v h = (elim (test e.0) as (λ b. test e.0 ≡ b → lookup test (e ∷ es) ≡ Some v) [
    | true ↦ λ t. rw t (rw t at h)
    | false ↦ λ t. rw t (lookup-take n es v (rw t at h))
  ]) refl

keys-take : {K V : Type 0} (n : ℕ) (es : List (K × V)) → keys_of (take n es) ≡ take n (keys_of es)
keys-take zero es = refl
keys-take (suc n) [] = refl
keys-take (suc n) (e ∷ es) = ap (λ ks. e.0 ∷ ks) (keys-take n es)

module _ {K : Type 0} (eq : K → K → Bool) where
  abbrev pub without : K → List K → List K
  without k xs = filter (λ y. not (eq k y)) xs

  -- no key is equal to a later one
  abbrev pub AreApart : List K → Type 0
  AreApart [] = Unit {0}
  AreApart (x ∷ xs) = (list_any (eq x) xs ≡ false) × AreApart xs

  without-none : (k : K) (xs : List K) → list_any (eq k) xs ≡ false → without k xs ≡ xs
  without-none k [] h = refl
  without-none k (x ∷ xs) h =
      let here : eq k x ≡ false = or-left (eq k x) (list_any (eq k) xs) h in
      let rest : without k xs ≡ xs = without-none k xs (or-right (eq k x) (list_any (eq k) xs) h) in
      rw here (ap (λ ys. x ∷ ys) rest)

  pub any-without : (k : K) (xs : List K) → list_any (eq k) (without k xs) ≡ false
  any-without k [] = refl
  any-without k (x ∷ xs) = (elim (eq k x) as (λ b. eq k x ≡ b → list_any (eq k) (without k (x ∷ xs)) ≡ false) [
    | true ↦ λ t. rw t (any-without k xs)
    | false ↦ λ t. rw (t, t) (any-without k xs)
  ]) refl

  pub AreApart-filter : (q : K → Bool) (xs : List K) → AreApart xs → AreApart (filter q xs)
  AreApart-filter q [] a = tt
  AreApart-filter q (x ∷ xs) a = (elim (q x) as (λ b. q x ≡ b → AreApart (filter q (x ∷ xs))) [
    | true ↦ λ t. rw t (any-filter (eq x) q xs a.0, AreApart-filter q xs a.1)
    | false ↦ λ t. rw t (AreApart-filter q xs a.1)
  ]) refl

  -- a key that is not among the first ones takes none of them away
  pub stays : (k : K) (n : ℕ) (xs : List K) → list_any (eq k) (take (suc n) xs) ≡ false → take n (take (suc n) xs) ≡ take n (without k xs)
  stays k zero xs h = refl
  stays k (suc n) [] h = refl
  stays k (suc n) (x ∷ xs) h =
      let here : eq k x ≡ false = or-left (eq k x) (list_any (eq k) (take (suc n) xs)) h in
      let rest : take n (take (suc n) xs) ≡ take n (without k xs) = stays k n xs (or-right (eq k x) (list_any (eq k) (take (suc n) xs)) h) in
      rw here (ap (λ ys. x ∷ ys) rest)

  module _ (sound : (x y : K) → eq x y ≡ true → x ≡ y) where
    -- a key that is among the first ones leaves the others
    moved : (k : K) (n : ℕ) (xs : List K) → list_any (eq k) (take (suc n) xs) ≡ true → AreApart xs → remove_first (eq k) (take (suc n) xs) ≡ take n (without k xs)
    moved k n [] h a = absurd cc
    moved k zero (x ∷ xs) h a = (elim (eq k x) as (λ b. eq k x ≡ b → remove_first (eq k) (x ∷ []) ≡ []) [
      | true ↦ λ t. rw t refl
      | false ↦ λ t. let h' = rw t at h in absurd cc
    ]) refl
    moved k (suc n) (x ∷ xs) h a = (elim (eq k x) as (λ b. eq k x ≡ b → remove_first (eq k) (x ∷ take (suc n) xs) ≡ take (suc n) (without k (x ∷ xs))) [
      | true ↦ λ t. rw t (ap (take (suc n)) (sym (without-none k xs (subst (λ y. list_any (eq y) xs ≡ false) (sym (sound k x t)) a.0))))
      | false ↦ λ t. rw t (ap (λ ys. x ∷ ys) (moved k n xs (rw t at h) a.1))
    ]) refl

    lookup-remove_other : {V : Type 0} (q k : K) → eq q k ≡ false → (es : List (K × V)) → lookup (eq q) (remove_entry (eq k) es) ≡ lookup (eq q) es
    lookup-remove_other q k h [] = refl
    lookup-remove_other q k h (e ∷ es) = (elim (eq k e.0) as (λ b. eq k e.0 ≡ b → lookup (eq q) (remove_entry (eq k) (e ∷ es)) ≡ lookup (eq q) (e ∷ es)) [
      | true ↦ λ t. let other : eq q e.0 ≡ false = subst (λ y. eq q y ≡ false) (sound k e.0 t) h in rw (t, other) refl
      | false ↦ λ t. rw t (ap (λ o. cond (eq q e.0) (Some e.1) o) (lookup-remove_other q k h es))
    ]) refl

    module _ {V : Type 0} (n : ℕ) (es : List (K × V)) (k : K) (v : V) where
      -- the entries where the key was found as o
      abbrev after : Option (K × V) → List (K × V)
      after o = option_map_or (λ e. (e.0, v) ∷ remove_entry (eq k) es) o ((k, v) ∷ take n es)

      keys_after : (xs : List K) → keys_of es ≡ take (suc n) xs → AreApart xs → (o : Option (K × V)) → lookup_entry (eq k) es ≡ o → keys_of (after o) ≡ k ∷ take n (without k xs)
      keys_after xs keys apart None h =
          let none : list_any (eq k) (take (suc n) xs) ≡ false = ap (list_any (eq k)) (sym keys) ∙ entry-any (eq k) es ∙ ap is_some h in
          ap (λ ks. k ∷ ks) (keys-take n es ∙ ap (take n) keys ∙ stays k n xs none)
      keys_after xs keys apart (Some e) h =
          let same : k ≡ e.0 = sound k e.0 (Contains-lookup_entry (eq k) es e h).1 in
          let there : list_any (eq k) (take (suc n) xs) ≡ true = ap (list_any (eq k)) (sym keys) ∙ entry-any (eq k) es ∙ ap is_some h in
          ap (λ y. y ∷ keys_of (remove_entry (eq k) es)) (sym same) ∙ ap (λ ks. k ∷ ks) (keys-remove_entry (eq k) es ∙ ap (remove_first (eq k)) keys ∙ moved k n xs there apart)

      -- the keys after a key was put first
      pub keys-put : (xs : List K) → keys_of es ≡ take (suc n) xs → AreApart xs → keys_of (after (lookup_entry (eq k) es)) ≡ k ∷ take n (without k xs)
      keys-put xs keys apart = keys_after xs keys apart (lookup_entry (eq k) es) refl

      same_after : (q : K) → eq q k ≡ true → (o : Option (K × V)) → lookup_entry (eq k) es ≡ o → lookup (eq q) (after o) ≡ Some v
      same_after q t None h = rw t refl
      same_after q t (Some e) h =
          let here : eq q e.0 ≡ true = subst (λ y. eq q y ≡ true) (sound k e.0 (Contains-lookup_entry (eq k) es e h).1) t in
          rw here refl

      -- the value of that key
      pub lookup-put_same : (q : K) → eq q k ≡ true → lookup (eq q) (after (lookup_entry (eq k) es)) ≡ Some v
      lookup-put_same q t = same_after q t (lookup_entry (eq k) es) refl

      other_after : (q : K) → eq q k ≡ false → (w : V) (o : Option (K × V)) → lookup_entry (eq k) es ≡ o → lookup (eq q) (after o) ≡ Some w → lookup (eq q) es ≡ Some w
      other_after q t w None h found = lookup-take (eq q) n es w (rw t at found)
      other_after q t w (Some e) h found =
          let here : eq q e.0 ≡ false = subst (λ y. eq q y ≡ false) (sound k e.0 (Contains-lookup_entry (eq k) es e h).1) t in
          sym (lookup-remove_other q k t es) ∙ (rw here at found)

      -- and what is found of another was there
      pub lookup-put_other : (q : K) → eq q k ≡ false → (w : V) → lookup (eq q) (after (lookup_entry (eq k) es)) ≡ Some w → lookup (eq q) es ≡ Some w
      lookup-put_other q t w found = other_after q t w (lookup_entry (eq k) es) refl found

-- a key at a place of a list in which none passes does not pass
any-none-at : {K : Type 0} (p : K → Bool) (xs : List K) (n : ℕ) (x : K) → slice_get xs n ≡ Some x → list_any p xs ≡ false → p x ≡ false
any-none-at p [] n x h none = absurd cc
any-none-at p (y ∷ xs) zero x h none = let same : y ≡ x = cc in subst (λ z. p z ≡ false) same (or-left (p y) (list_any p xs) none)
any-none-at p (y ∷ xs) (suc n) x h none = any-none-at p xs n x h (or-right (p y) (list_any p xs) none)

any-take : {K : Type 0} (p : K → Bool) (n : ℕ) (xs : List K) → list_any p xs ≡ false → list_any p (take n xs) ≡ false
any-take p zero xs none = refl
any-take p (suc n) [] none = refl
any-take p (suc n) (x ∷ xs) none =
    let here : p x ≡ false = or-left (p x) (list_any p xs) none in
    let rest : list_any p (take n xs) ≡ false = any-take p n xs (or-right (p x) (list_any p xs) none) in
    rw here rest

module _ {K : Type 0} (eq : K → K → Bool) (symm : (x y : K) → eq x y ≡ eq y x) where
  -- the last of the first keys is none of those before it
  last-out : (n : ℕ) (xs : List K) (x : K) → slice_get (take (suc n) xs) n ≡ Some x → AreApart eq xs → list_any (eq x) (take n (take (suc n) xs)) ≡ false
  last-out zero xs x h apart = refl
  last-out (suc n) [] x h apart = refl
  last-out (suc n) (y ∷ xs) x h apart =
      let here : eq x y ≡ false = symm x y ∙ any-none-at (eq y) (take (suc n) xs) n x h (any-take (eq y) (suc n) xs apart.0) in
      let rest : list_any (eq x) (take n (take (suc n) xs)) ≡ false = last-out n xs x h apart.1 in
      rw here rest

  -- one key more pushes it out
  pub pushed-out : (n : ℕ) (xs : List K) (k x : K) → slice_get (take (suc n) xs) n ≡ Some x → AreApart eq xs → list_any (eq k) (take (suc n) xs) ≡ false → list_any (eq x) (k ∷ take n (without eq k xs)) ≡ false
  pushed-out n xs k x h apart none =
      let here : eq x k ≡ false = symm x k ∙ any-none-at (eq k) (take (suc n) xs) n x h none in
      let rest : list_any (eq x) (take n (without eq k xs)) ≡ false = subst (λ ys. list_any (eq x) ys ≡ false) (stays eq k n xs none) (last-out n xs x h apart) in
      rw here rest
