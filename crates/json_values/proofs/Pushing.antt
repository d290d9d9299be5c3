-- One more value behind the others.
use Rattle.std.proofs.Common.{◌≡◌, ℕ, zero, suc, ◌+◌, ◌<◌, ◌≤◌, List, [], ◌∷◌, ◌++◌, length, map, take, Option, Some, refl, sym, ◌∙◌, ap, arith, ◌⊎◌, inl, inr, subst, unwrap_or}
use Rattle.std.specs.Prelude.{slice_get, String}
use Rattle.std.specs.declared.alloc.Global.{Global}
use Rattle.json_subset.specs.Nodes.{member_at, AllBelow, AllValuesBelow}
use Rattle.json_subset.proofs.Nodes.{map_alike, members_alike, map_push, map_member_push, below_more, below_push, values_more, values_push}
use Rattle.json_values.specs.Parts.{items_of, entries_of}
use Rattle.json_values.proofs.Seen.{items_take, entries_take}
use Rattle.std.proofs.lemmas.Option.{slice_get_within}
use Rattle.json_subset.specs.Tree.{Form}
use Rattle.json_subset.specs.Documents.{Document, part, IsPart, form, item_at, entry_at}
use Rattle.json_values.specs.Values.{form_of, IsBelow, IsSound, AreSound, read_from, source_of, IsRead, Mirror, Extends}
use Rattle.json_values.specs.declared.value.Value.{Value}
use Rattle.json_values.proofs.Opened.{form_alike}

get_front : {A : Type 0} (xs : List A) (y : A) (j : ℕ) → j < length xs → slice_get (xs ++ y ∷ []) j ≡ slice_get xs j
get_front [] y j h = absurd (omega (arith, h))
get_front (x ∷ xs) y zero h = refl
get_front (x ∷ xs) y (suc j) h = get_front xs y j (omega (arith, h))

get_last : {A : Type 0} (xs : List A) (y : A) → slice_get (xs ++ y ∷ []) (length xs) ≡ Some y
get_last [] y = refl
get_last (x ∷ xs) y = get_last xs y

split : (k n : ℕ) → k < n + 1 → (k < n) ⊎ (k ≡ n)
split zero zero h = inr refl
split zero (suc n) h = inl (omega arith)
split (suc k) zero h = absurd (omega (arith, h))
split (suc k) (suc n) h = up (split k n (omega (arith, h)))
  where
    up : (k < n) ⊎ (k ≡ n) → (suc k < suc n) ⊎ (suc k ≡ suc n)
    up (inl h) = inl (omega (arith, h))
    up (inr e) = inr (ap suc e)

length_push : {A : Type 0} (xs : List A) (y : A) → length (xs ++ y ∷ []) ≡ length xs + 1
length_push [] y = refl
length_push (x ∷ xs) y = let e = length_push xs y in omega (arith, e)

some_inj : {A : Type 0} (x y : A) → Some x ≡ Some y → x ≡ y
some_inj {A = A} x y e = let out : Option A → A = λ o. unwrap_or o x in ap out e

-- what holds of each place of a list, where the last is another
pushed : {A : Type 0} (P : ℕ → A → Type 0) (xs : List A) (x : A) → ((k : ℕ) (y : A) → slice_get xs k ≡ Some y → P k y) → P (length xs) x → (k : ℕ) (y : A) → slice_get (xs ++ x ∷ []) k ≡ Some y → P k y
pushed {A = A} P xs x before last k y at = go (split k (length xs) (omega (arith, slice_get_within (xs ++ x ∷ []) k y at, length_push xs x)))
  where
    go : (k < length xs) ⊎ (k ≡ length xs) → P k y
    go (inl h) = before k y (sym (get_front xs x k h) ∙ at)
    go (inr e) =
        let here : slice_get (xs ++ x ∷ []) k ≡ Some x = ap (slice_get (xs ++ x ∷ [])) e ∙ get_last xs x in
        let Q : A → Type 0 = λ z. P k z in
        let R : ℕ → Type 0 = λ z. P z x in
        subst Q (some_inj x y (sym here ∙ at)) (subst R (sym e) last)

pub sound_push : (vs : List Value) (x : Value) → AreSound vs → IsSound (length vs) x → AreSound (vs ++ x ∷ [])
sound_push vs x sound here = pushed IsSound vs x sound here

pub extends_push : (vs : List Value) (x : Value) → Extends vs (vs ++ x ∷ [])
extends_push vs x = record { longer = omega (arith, length_push vs x); same = λ k h. get_front vs x k h }

pub extends_all : (vs : List Value) → Extends vs vs
extends_all vs = record { longer = omega arith; same = λ k h. refl }

pub extends_trans : (a b c : List Value) → Extends a b → Extends b c → Extends a c
extends_trans a b c p q = record {
  longer = omega (arith, p.longer, q.longer);
  same = λ k h. q.same k (omega (arith, h, p.longer)) ∙ p.same k h;
}

-- the old values are read from where they were
pub source_kept : (d : Document) (old new : List Value) (k : ℕ) → Extends old new → k < length old → source_of d new k ≡ source_of d old k
source_kept d old new k e h = ap (read_from d) (e.same k h)

pub source_push : (d : Document) (vs : List Value) (x : Value) → source_of d (vs ++ x ∷ []) (length vs) ≡ part d x.id
source_push d vs x = ap (read_from d) (get_last vs x)

pub mirror_push : (d : Document) (vs : List Value) (x : Value) → AreSound vs → Mirror d vs → IsPart d x.id → IsBelow (length vs) x.form → form (part d x.id) ≡ form_of (source_of d vs) x.form → Mirror d (vs ++ x ∷ [])
mirror_push d vs x sound mirror stands below alike =
    pushed (λ k y. IsRead d (vs ++ x ∷ []) y) vs x
    (λ k y at. moved k y (omega (arith, slice_get_within vs k y at)) (sound k y at).below (mirror k y at))
    (moved (length vs) x (omega arith) below (record { stands = stands; alike = alike }))
  where
    moved : (k : ℕ) (y : Value) → k ≤ length vs → IsBelow k y.form → IsRead d vs y → IsRead d (vs ++ x ∷ []) y
    moved k y le b r = record {
      stands = r.stands;
      alike = r.alike ∙ sym (form_alike (source_of d (vs ++ x ∷ [])) (source_of d vs) k y.form (λ j h. source_kept d vs (vs ++ x ∷ []) j (extends_push vs x) (omega (arith, h, le))) b);
    }

-- one more item, read behind the others
pub item_added : (d : Document) (old new : List Value) (ids : List ℕ) (k i : ℕ) (f : Form) → Extends old new → AllBelow (length old) ids → map (source_of d old) ids ≡ take i (items_of f) → item_at f i ≡ Some (source_of d new k) → map (source_of d new) (ids ++ k ∷ []) ≡ take (i + 1) (items_of f)
item_added d old new ids k i f e below so_far at =
    map_push (source_of d new) ids k
    ∙ ap (λ z. z ++ source_of d new k ∷ []) (map_alike (source_of d new) (source_of d old) (length old) ids (λ j h. source_kept d old new j e h) below ∙ so_far)
    ∙ sym (items_take f i (source_of d new k) at)

pub item_below : (old new : List Value) (ids : List ℕ) (k : ℕ) → Extends old new → AllBelow (length old) ids → k < length new → AllBelow (length new) (ids ++ k ∷ [])
item_below old new ids k e below h = below_push (length new) ids k (below_more (length old) (length new) ids e.longer below) h

-- one more member
pub member_added : (d : Document) (old new : List Value) (ms : List (String Global × ℕ)) (m : String Global × ℕ) (i : ℕ) (f : Form) → Extends old new → AllValuesBelow (length old) ms → map (member_at (source_of d old)) ms ≡ take i (entries_of f) → entry_at f i ≡ Some (member_at (source_of d new) m) → map (member_at (source_of d new)) (ms ++ m ∷ []) ≡ take (i + 1) (entries_of f)
member_added d old new ms m i f e below so_far at =
    map_member_push (source_of d new) ms m
    ∙ ap (λ z. z ++ member_at (source_of d new) m ∷ []) (members_alike (source_of d new) (source_of d old) (length old) ms (λ j h. source_kept d old new j e h) below ∙ so_far)
    ∙ sym (entries_take f i (member_at (source_of d new) m) at)

pub member_below : (old new : List Value) (ms : List (String Global × ℕ)) (m : String Global × ℕ) → Extends old new → AllValuesBelow (length old) ms → m.1 < length new → AllValuesBelow (length new) (ms ++ m ∷ [])
member_below old new ms m e below h = values_push (length new) ms m (values_more (length old) (length new) ms e.longer below) h
