-- The rows of marks.
use Rattle.std.proofs.Common.{◌≡◌, ◌+◌, ◌<◌, ℕ, zero, suc, List, [], ◌∷◌, ◌++◌, ◌≤◌, length, map, drop, get_or, Bool, false, Option, Some, None, refl, sym, ap, ◌∙◌, arith, ◌⊎◌, inl, inr}
use Rattle.std.specs.Prelude.{slice_get, option_and_then}
use Rattle.std.specs.Global.{Vec}
use Rattle.std.proofs.lemmas.List.{append_assoc, append-nil}
use Rattle.vtl_words.specs.Names.{place_of}
use Rattle.vtl_reader.specs.Nodes.{Nodes, item_of}
use Rattle.vtl_reader.specs.Macros.{Listed, defines, macros_by}
use Rattle.vtl_eval.specs.Idle.{idle_body, idle_call, at_place, by_place, holds, row_at, row_in}
use Rattle.vtl_eval.specs.declared.idle.Body.{Body}

row_mapped : (f : ℕ → Bool) (ids : List ℕ) (j : ℕ) → row_at (map f ids) j ≡ at_place f (slice_get ids j)
row_mapped f [] zero = refl
row_mapped f [] (suc j) = refl
row_mapped f (k ∷ ids) zero = refl
row_mapped f (k ∷ ids) (suc j) = row_mapped f ids j

no_mark : (o : Option ℕ) → at_place (row_at []) o ≡ false
no_mark None = refl
no_mark (Some zero) = refl
no_mark (Some (suc j)) = refl

-- no call does nothing where none may stand
pub first_row : (ns : Nodes) (l : Listed) (row : List Bool) (x : List ℕ) → row ≡ [] → by_place (row_at row) l.names x ≡ idle_call (macros_by ns l) 0 x
unfolding idle_call
first_row ns l row x e = ap (λ r. by_place (row_at r) l.names x) e ∙ no_mark (place_of l.names x)

module _ (ns : Nodes) (l : Listed) (n : ℕ) (row next : List Bool) (bodies : List Body)
    (so_far : (x : List ℕ) → by_place (row_at row) l.names x ≡ idle_call (macros_by ns l) n x)
    (made : (p : ℕ → Bool) → map (holds p) bodies ≡ map (λ k. idle_body (by_place p l.names) (defines (item_of ns k))) l.ids)
    (is : next ≡ map (holds (row_at row)) bodies) where
  at_id : (o : Option ℕ) → at_place (λ k. idle_body (by_place (row_at row) l.names) (defines (item_of ns k))) o ≡ idle_body (idle_call (macros_by ns l) n) (option_and_then (λ k. defines (item_of ns k)) o)
  at_id None = refl
  at_id (Some k) = let path : by_place (row_at row) l.names ≡ idle_call (macros_by ns l) n = λ i x. so_far x i in ap (λ p. idle_body p (defines (item_of ns k))) path

  at_name : (o : Option ℕ) → at_place (row_at next) o ≡ idle_body (idle_call (macros_by ns l) n) (option_and_then (λ k. defines (item_of ns k)) (option_and_then (slice_get l.ids) o))
  at_name None = refl
  at_name (Some j) =
      ap (λ r. row_at r j) (is ∙ made (row_at row))
      ∙ row_mapped (λ k. idle_body (by_place (row_at row) l.names) (defines (item_of ns k))) l.ids j
      ∙ at_id (slice_get l.ids j)

  -- the row for one more call inside another
  pub row_after : (x : List ℕ) → by_place (row_at next) l.names x ≡ idle_call (macros_by ns l) (suc n) x
  unfolding idle_call
  row_after x = at_name (place_of l.names x)

split : (k n : ℕ) → k < n + 1 → (k < n) ⊎ (k ≡ n)
split zero zero h = inr refl
split zero (suc n) h = inl (omega arith)
split (suc k) zero h = absurd (omega (arith, h))
split (suc k) (suc n) h = up (split k n (omega (arith, h)))
  where
    up : (k < n) ⊎ (k ≡ n) → (suc k < suc n) ⊎ (suc k ≡ suc n)
    up (inl h) = inl (omega (arith, h))
    up (inr e) = inr (ap suc e)

got_front : {A : Type 0} (xs : List A) (y : A) (j : ℕ) → j < length xs → slice_get (xs ++ y ∷ []) j ≡ slice_get xs j
got_front [] y j h = absurd (omega (arith, h))
got_front (x ∷ xs) y zero h = refl
got_front (x ∷ xs) y (suc j) h = got_front xs y j (omega (arith, h))

got_last : {A : Type 0} (xs : List A) (y : A) → slice_get (xs ++ y ∷ []) (length xs) ≡ Some y
got_last [] y = refl
got_last (x ∷ xs) y = got_last xs y

pub length_push : {A : Type 0} (xs : List A) (y : A) → length (xs ++ y ∷ []) ≡ length xs + 1
length_push [] y = refl
length_push (x ∷ xs) y = let e = length_push xs y in omega (arith, e)

-- one row more
pub rows_push : (ns : Nodes) (l : Listed) (rows : List (Vec Bool)) (row : Vec Bool)
    → ((n : ℕ) (x : List ℕ) → n < length rows → by_place (row_in (slice_get rows n)) l.names x ≡ idle_call (macros_by ns l) n x)
    → ((x : List ℕ) → by_place (row_at row.items) l.names x ≡ idle_call (macros_by ns l) (length rows) x)
    → (n : ℕ) (x : List ℕ) → n < length rows + 1 → by_place (row_in (slice_get (rows ++ row ∷ []) n)) l.names x ≡ idle_call (macros_by ns l) n x
rows_push ns l rows row before last n x h = go (split n (length rows) h)
  where
    go : (n < length rows) ⊎ (n ≡ length rows) → by_place (row_in (slice_get (rows ++ row ∷ []) n)) l.names x ≡ idle_call (macros_by ns l) n x
    go (inl i) = ap (λ o. by_place (row_in o) l.names x) (got_front rows row n i) ∙ before n x i
    go (inr e) =
        ap (λ k. by_place (row_in (slice_get (rows ++ row ∷ []) k)) l.names x) e
        ∙ ap (λ o. by_place (row_in o) l.names x) (got_last rows row)
        ∙ last x
        ∙ ap (λ k. idle_call (macros_by ns l) k x) (sym e)

-- what is mapped so far, and what is left

map_push : {A B : Type 0} (f : A → B) (xs : List A) (x : A) → map f (xs ++ x ∷ []) ≡ map f xs ++ f x ∷ []
map_push f [] x = refl
map_push f (y ∷ xs) x = ap (λ z. f y ∷ z) (map_push f xs x)

drop_at : (ids : List ℕ) (n d : ℕ) → n < length ids → drop n ids ≡ get_or ids n d ∷ drop (suc n) ids
drop_at [] n d h = absurd (omega (arith, h))
drop_at (k ∷ ids) zero d h = refl
drop_at (k ∷ ids) (suc n) d h = drop_at ids n d (omega (arith, h))

drop_all : (ids : List ℕ) (n : ℕ) → length ids ≤ n → drop n ids ≡ []
drop_all [] zero h = refl
drop_all [] (suc n) h = refl
drop_all (k ∷ ids) zero h = absurd (omega (arith, h))
drop_all (k ∷ ids) (suc n) h = drop_all ids n (omega (arith, h))

pub mapped_more : {A B : Type 0} (h : A → B) (f : ℕ → B) (xs : List A) (x : A) (ids : List ℕ) (n d : ℕ) (target : List B) → n < length ids → h x ≡ f (get_or ids n d) → map h xs ++ map f (drop n ids) ≡ target → map h (xs ++ x ∷ []) ++ map f (drop (n + 1) ids) ≡ target
mapped_more h f xs x ids n d target lt e so_far =
    let one : n + 1 ≡ suc n = omega arith in
    ap (λ z. z ++ map f (drop (n + 1) ids)) (map_push h xs x)
    ∙ append_assoc (map h xs) (h x ∷ []) (map f (drop (n + 1) ids))
    ∙ ap (λ z. map h xs ++ z ∷ map f (drop (n + 1) ids)) e
    ∙ ap (λ k. map h xs ++ f (get_or ids n d) ∷ map f (drop k ids)) one
    ∙ ap (λ z. map h xs ++ map f z) (sym (drop_at ids n d lt))
    ∙ so_far

pub mapped_all : {A B : Type 0} (h : A → B) (f : ℕ → B) (xs : List A) (ids : List ℕ) (n : ℕ) (target : List B) → length ids ≤ n → map h xs ++ map f (drop n ids) ≡ target → map h xs ≡ target
mapped_all h f xs ids n target le so_far = sym (append-nil (map h xs)) ∙ ap (λ z. map h xs ++ map f z) (sym (drop_all ids n le)) ∙ so_far
