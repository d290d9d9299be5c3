-- Of each name the last value that was written counts, in the place of the first.
use Rattle.std.proofs.Common.{◌≡◌, ◌==◌, ℕ, Bool, true, false, ◌&&◌, ◌||◌, List, [], ◌∷◌, length, fold, Option, Some, None, refl, sym, ap, ◌∙◌, subst}
use Rattle.std.specs.Prelude.{if◌then◌else◌, codes}
use Rattle.std.specs.Option.{option_map}
use Rattle.std.specs.Str.{bytes_eq}
use Rattle.std.proofs.lemmas.Slice.Eq.{bytes_eq-Decides}
use Rattle.vtl_eval.specs.Roots.{Kept, same_path, put_path, kept_after}
use Rattle.vtl_values.specs.Printed.{printed}
use Rattle.vtl_values.specs.Val.{Val}
use Rattle.gateway_vars.specs.Overriding.{put_pair, nothing, changed, changed_by, after_write, overridden, wrote, put_over, LastWritesCount}
use Rattle.call_facts.specs.Pairs.{Pairs}
use Rattle.gateway_vars.specs.Writing.{named, bare, request_part, response_part, part_below, group_of, slot_of, kept_name, path_at}
use Rattle.gateway_vars.specs.declared.changes.Overrides.{Overrides}
use Rattle.gateway_vars.specs.declared.slots.Part.{Part}
use Rattle.gateway_vars.specs.declared.slots.Part.TheVariants.{Header, Query, Path, Status}
use Rattle.gateway_vars.specs.declared.slots.Side.{Side}
use Rattle.gateway_vars.specs.declared.slots.Side.TheVariants.{Request, Response}

abbrev Slot : Type 0
Slot = Part × List ℕ

some_same : {X : Type 0} {x y : X} → Some x ≡ Some y → x ≡ y
some_same e = cc

none_some : {X : Type 0} {x : X} → None ≡ Some x → ⊥
none_some e = cc

same : (x : List ℕ) → bytes_eq x x ≡ true
same x = (bytes_eq-Decides x x).1 refl

differ : (x y : List ℕ) → (x ≡ y → ⊥) → bytes_eq x y ≡ false
differ x y apart = go (bytes_eq x y) refl
  where
    go : (b : Bool) → bytes_eq x y ≡ b → bytes_eq x y ≡ false
    go true e = absurd (apart ((bytes_eq-Decides x y).0 e))
    go false e = e

-- among pairs

put_here : (p : List ℕ × List ℕ) (ps : Pairs) (x t : List ℕ) → bytes_eq p.0 x ≡ true → put_pair (p ∷ ps) x t ≡ (x, t) ∷ ps
put_here p ps x t e = ap (λ b. if b then (x, t) ∷ ps else p ∷ put_pair ps x t) e

put_later : (p : List ℕ × List ℕ) (ps : Pairs) (x t : List ℕ) → bytes_eq p.0 x ≡ false → put_pair (p ∷ ps) x t ≡ p ∷ put_pair ps x t
put_later p ps x t e = ap (λ b. if b then (x, t) ∷ ps else p ∷ put_pair ps x t) e

abbrev has : Pairs → List ℕ → Bool
has [] x = false
has (p ∷ ps) x = bytes_eq p.0 x || has ps x

or_right : (a b : Bool) → a ≡ false → (a || b) ≡ true → b ≡ true
or_right true b e h = absurd (cc)
or_right false b e h = h

or_true : (a b : Bool) → b ≡ true → (a || b) ≡ true
or_true true b h = refl
or_true false b h = h

put_twice : (ps : Pairs) (x t u : List ℕ) → put_pair (put_pair ps x t) x u ≡ put_pair ps x u
put_twice [] x t u = put_here (x, t) [] x u (same x)
put_twice (p ∷ ps) x t u = go (bytes_eq p.0 x) refl (put_twice ps x t u)
  where
    go : (b : Bool) → bytes_eq p.0 x ≡ b → put_pair (put_pair ps x t) x u ≡ put_pair ps x u → put_pair (put_pair (p ∷ ps) x t) x u ≡ put_pair (p ∷ ps) x u
    go true e ih = ap (λ qs. put_pair qs x u) (put_here p ps x t e) ∙ put_here (x, t) ps x u (same x) ∙ sym (put_here p ps x u e)
    go false e ih =
        ap (λ qs. put_pair qs x u) (put_later p ps x t e) ∙ put_later p (put_pair ps x t) x u e
        ∙ ap (λ qs. p ∷ qs) ih ∙ sym (put_later p ps x u e)

put_has : (ps : Pairs) (x t : List ℕ) → has (put_pair ps x t) x ≡ true
put_has [] x t = ap (λ b. b || false) (same x)
put_has (p ∷ ps) x t = go (bytes_eq p.0 x) refl (put_has ps x t)
  where
    go : (b : Bool) → bytes_eq p.0 x ≡ b → has (put_pair ps x t) x ≡ true → has (put_pair (p ∷ ps) x t) x ≡ true
    go true e ih = ap (λ qs. has qs x) (put_here p ps x t e) ∙ ap (λ b. b || has ps x) (same x)
    go false e ih = ap (λ qs. has qs x) (put_later p ps x t e) ∙ or_true (bytes_eq p.0 x) (has (put_pair ps x t) x) ih

still_has : (ps : Pairs) (x y u : List ℕ) → has ps x ≡ true → has (put_pair ps y u) x ≡ true
still_has [] x y u h = absurd (cc)
still_has (p ∷ ps) x y u h = go (bytes_eq p.0 y) (bytes_eq p.0 x) refl refl (λ k. still_has ps x y u k)
  where
    go : (b c : Bool) → bytes_eq p.0 y ≡ b → bytes_eq p.0 x ≡ c → (has ps x ≡ true → has (put_pair ps y u) x ≡ true) → has (put_pair (p ∷ ps) y u) x ≡ true
    go true true e f ih =
        let name : y ≡ x = sym ((bytes_eq-Decides p.0 y).0 e) ∙ (bytes_eq-Decides p.0 x).0 f in
        ap (λ qs. has qs x) (put_here p ps y u e) ∙ ap (λ b. b || has ps x) ((bytes_eq-Decides y x).1 name)
    go true false e f ih = ap (λ qs. has qs x) (put_here p ps y u e) ∙ or_true (bytes_eq y x) (has ps x) (or_right (bytes_eq p.0 x) (has ps x) f h)
    go false true e f ih = ap (λ qs. has qs x) (put_later p ps y u e) ∙ ap (λ b. b || has (put_pair ps y u) x) f
    go false false e f ih =
        ap (λ qs. has qs x) (put_later p ps y u e)
        ∙ or_true (bytes_eq p.0 x) (has (put_pair ps y u) x) (ih (or_right (bytes_eq p.0 x) (has ps x) f h))

put_apart : (ps : Pairs) (x t y u : List ℕ) → (x ≡ y → ⊥) → has ps x ≡ true → put_pair (put_pair ps y u) x t ≡ put_pair (put_pair ps x t) y u
put_apart [] x t y u apart h = absurd (cc)
put_apart (p ∷ ps) x t y u apart h = go (bytes_eq p.0 x) (bytes_eq p.0 y) refl refl (λ k. put_apart ps x t y u apart k)
  where
    go : (b c : Bool) → bytes_eq p.0 x ≡ b → bytes_eq p.0 y ≡ c → (has ps x ≡ true → put_pair (put_pair ps y u) x t ≡ put_pair (put_pair ps x t) y u) → put_pair (put_pair (p ∷ ps) y u) x t ≡ put_pair (put_pair (p ∷ ps) x t) y u
    go true true e f ih = absurd (apart (sym ((bytes_eq-Decides p.0 x).0 e) ∙ (bytes_eq-Decides p.0 y).0 f))
    go true false e f ih =
        ap (λ qs. put_pair qs x t) (put_later p ps y u f) ∙ put_here p (put_pair ps y u) x t e
        ∙ sym (put_later (x, t) ps y u (differ x y apart)) ∙ ap (λ qs. put_pair qs y u) (sym (put_here p ps x t e))
    go false true e f ih =
        ap (λ qs. put_pair qs x t) (put_here p ps y u f) ∙ put_later (y, u) ps x t (differ y x (λ g. apart (sym g)))
        ∙ sym (put_here p (put_pair ps x t) y u f) ∙ ap (λ qs. put_pair qs y u) (sym (put_later p ps x t e))
    go false false e f ih =
        ap (λ qs. put_pair qs x t) (put_later p ps y u f) ∙ put_later p (put_pair ps y u) x t e
        ∙ ap (λ qs. p ∷ qs) (ih (or_right (bytes_eq p.0 x) (has ps x) e h))
        ∙ sym (put_later p (put_pair ps x t) y u f) ∙ ap (λ qs. put_pair qs y u) (sym (put_later p ps x t e))

-- among the values that are written over

abbrev Present : Overrides → Part → List ℕ → Type 0
Present o Header x = has o.headers x ≡ true
Present o Query x = has o.query x ≡ true
Present o Path x = has o.path x ≡ true
Present o Status x = Unit {0}

abbrev Apart : Part → List ℕ → Part → List ℕ → Type 0
Apart Header x Header y = x ≡ y → ⊥
Apart Query x Query y = x ≡ y → ⊥
Apart Path x Path y = x ≡ y → ⊥
Apart Status x Status y = ⊥
Apart a x b y = Unit {0}

changed_twice : (o : Overrides) (a : Part) (x t u : List ℕ) → changed (changed o a x t) a x u ≡ changed o a x u
changed_twice o Header x t u = ap (λ ps. record o { headers = ps }) (put_twice o.headers x t u)
changed_twice o Query x t u = ap (λ ps. record o { query = ps }) (put_twice o.query x t u)
changed_twice o Path x t u = ap (λ ps. record o { path = ps }) (put_twice o.path x t u)
changed_twice o Status x t u = refl

changed_present : (o : Overrides) (a : Part) (x t : List ℕ) → Present (changed o a x t) a x
changed_present o Header x t = put_has o.headers x t
changed_present o Query x t = put_has o.query x t
changed_present o Path x t = put_has o.path x t
changed_present o Status x t = tt

still_present : (o : Overrides) (a : Part) (x : List ℕ) (b : Part) (y u : List ℕ) → Present o a x → Present (changed o b y u) a x
still_present o Header x Header y u h = still_has o.headers x y u h
still_present o Header x Query y u h = h
still_present o Header x Path y u h = h
still_present o Header x Status y u h = h
still_present o Query x Header y u h = h
still_present o Query x Query y u h = still_has o.query x y u h
still_present o Query x Path y u h = h
still_present o Query x Status y u h = h
still_present o Path x Header y u h = h
still_present o Path x Query y u h = h
still_present o Path x Path y u h = still_has o.path x y u h
still_present o Path x Status y u h = h
still_present o Status x b y u h = tt

changed_apart : (o : Overrides) (a : Part) (x t : List ℕ) (b : Part) (y u : List ℕ) → Present o a x → Apart a x b y → changed (changed o b y u) a x t ≡ changed (changed o a x t) b y u
changed_apart o Header x t Header y u h apart = ap (λ ps. record o { headers = ps }) (put_apart o.headers x t y u apart h)
changed_apart o Header x t Query y u h apart = refl
changed_apart o Header x t Path y u h apart = refl
changed_apart o Header x t Status y u h apart = refl
changed_apart o Query x t Header y u h apart = refl
changed_apart o Query x t Query y u h apart = ap (λ ps. record o { query = ps }) (put_apart o.query x t y u apart h)
changed_apart o Query x t Path y u h apart = refl
changed_apart o Query x t Status y u h apart = refl
changed_apart o Path x t Header y u h apart = refl
changed_apart o Path x t Query y u h apart = refl
changed_apart o Path x t Path y u h apart = ap (λ ps. record o { path = ps }) (put_apart o.path x t y u apart h)
changed_apart o Path x t Status y u h apart = refl
changed_apart o Status x t Header y u h apart = refl
changed_apart o Status x t Query y u h apart = refl
changed_apart o Status x t Path y u h apart = refl
changed_apart o Status x t Status y u h apart = absurd apart

-- among paths

module _ (side : Side) where
  -- none of these writes is to this slot
  abbrev Elsewhere : Part → List ℕ → Kept → Type 0
  Elsewhere a x [] = Unit {0}
  Elsewhere a x (k ∷ ks) = ((slot : Slot) × (slot_of side k.0 ≡ Some slot) × Apart a x slot.0 slot.1) × Elsewhere a x ks

  -- each write is to the path of its slot, and none is to the slot of another
  abbrev Stands : Kept → Type 0
  Stands [] = Unit {0}
  Stands (k ∷ ks) = ((slot : Slot) × (slot_of side k.0 ≡ Some slot) × (k.0 ≡ path_at side slot.0 slot.1) × Elsewhere slot.0 slot.1 ks) × Stands ks

  over : (o : Overrides) (p : List (List ℕ)) (v : Val) (slot : Slot) → slot_of side p ≡ Some slot → after_write side o (p, v) ≡ changed o slot.0 slot.1 (printed v)
  over o p v slot e = ap (λ s. changed_by o s (printed v)) e

  later : (ks : Kept) (o : Overrides) (a : Part) (x t : List ℕ) → Elsewhere a x ks → Present o a x → changed (fold (after_write side) o ks) a x t ≡ fold (after_write side) (changed o a x t) ks
  later [] o a x t away h = refl
  later (k ∷ ks) o a x t away h =
      let slot = away.0.0 in
      let here = over o k.0 k.1 slot away.0.1 in
      let there = over (changed o a x t) k.0 k.1 slot away.0.1 in
      let present : Present (after_write side o k) a x = subst (λ q. Present q a x) (sym here) (still_present o a x slot.0 slot.1 (printed k.1) h) in
      later ks (after_write side o k) a x t away.1 present
      ∙ ap (λ q. fold (after_write side) q ks)
      (ap (λ q. changed q a x t) here ∙ changed_apart o a x t slot.0 slot.1 (printed k.1) h away.0.2 ∙ sym there)

  same_paths : (p q : List (List ℕ)) → same_path p q ≡ true → p ≡ q
  same_paths [] [] e = refl
  same_paths [] (y ∷ ys) e = absurd (cc)
  same_paths (x ∷ xs) [] e = absurd (cc)
  same_paths (x ∷ xs) (y ∷ ys) e = go (bytes_eq x y) refl e (λ g. same_paths xs ys g)
    where
      go : (b : Bool) → bytes_eq x y ≡ b → (b && same_path xs ys) ≡ true → (same_path xs ys ≡ true → xs ≡ ys) → x ∷ xs ≡ y ∷ ys
      go true f g ih = ap (λ z. z ∷ xs) ((bytes_eq-Decides x y).0 f) ∙ ap (λ zs. y ∷ zs) (ih g)
      go false f g ih = absurd (cc)

  written_once : (kept : Kept) (o : Overrides) (p : List (List ℕ)) (v : Val) (slot : Slot) → Stands kept → slot_of side p ≡ Some slot
      → fold (after_write side) o (put_path kept p v) ≡ changed (fold (after_write side) o kept) slot.0 slot.1 (printed v)
  written_once [] o p v slot stands e = over o p v slot e
  written_once (k ∷ ks) o p v slot stands e = go (same_path k.0 p) refl (written_once ks (after_write side o k) p v slot stands.1 e)
    where
      go : (b : Bool) → same_path k.0 p ≡ b
          → fold (after_write side) (after_write side o k) (put_path ks p v) ≡ changed (fold (after_write side) (after_write side o k) ks) slot.0 slot.1 (printed v)
          → fold (after_write side) o (if b then (p, v) ∷ ks else k ∷ put_path ks p v) ≡ changed (fold (after_write side) o (k ∷ ks)) slot.0 slot.1 (printed v)
      go true f ih =
          let a = slot.0 in
          let x = slot.1 in
          let path : k.0 ≡ p = same_paths k.0 p f in
          let slots : stands.0.0 ≡ slot = some_same (sym stands.0.1 ∙ ap (slot_of side) path ∙ e) in
          let away : Elsewhere a x ks = subst (λ (s : Slot). Elsewhere s.0 s.1 ks) slots stands.0.3 in
          let first = over o k.0 k.1 slot (ap (slot_of side) path ∙ e) in
          ap (λ q. fold (after_write side) q ks) (over o p v slot e ∙ sym (changed_twice o a x (printed k.1) (printed v)))
          ∙ sym (later ks (changed o a x (printed k.1)) a x (printed v) away (changed_present o a x (printed k.1)))
          ∙ ap (λ q. changed (fold (after_write side) q ks) a x (printed v)) (sym first)
      go false f ih = ih

  -- slots of different paths are apart

  and_true : (b : Bool) → (b && true) ≡ false → b ≡ false
  and_true true e = absurd (cc)
  and_true false e = refl

  not_same : (x y : List ℕ) → (bytes_eq x y && true) ≡ false → x ≡ y → ⊥
  not_same x y e same_name = let is = (bytes_eq-Decides x y).1 same_name in let not = and_true (bytes_eq x y) e in let both = sym is ∙ not in cc

apart_by : (side : Side) (a : Part) (x : List ℕ) (b : Part) (y : List ℕ) → same_path (path_at side a x) (path_at side b y) ≡ false → Apart a x b y
apart_by Request Header x Header y e = not_same Request x y e
apart_by Request Query x Query y e = not_same Request x y e
apart_by Request Path x Path y e = not_same Request x y e
apart_by Request Status x Status y e = cc
apart_by Response Header x Header y e = not_same Response x y e
apart_by Response Query x Query y e = not_same Response x y e
apart_by Response Path x Path y e = not_same Response x y e
apart_by Response Status x Status y e = cc
apart_by side Header x Query y e = tt
apart_by side Header x Path y e = tt
apart_by side Header x Status y e = tt
apart_by side Query x Header y e = tt
apart_by side Query x Path y e = tt
apart_by side Query x Status y e = tt
apart_by side Path x Header y e = tt
apart_by side Path x Query y e = tt
apart_by side Path x Status y e = tt
apart_by side Status x Header y e = tt
apart_by side Status x Query y e = tt
apart_by side Status x Path y e = tt

module _ (side : Side) (p : List (List ℕ)) (v : Val) (slot : Slot) (is : slot_of side p ≡ Some slot) (spelled : p ≡ path_at side slot.0 slot.1) where
  elsewhere_still : (a : Part) (x : List ℕ) (kept : Kept) → Apart a x slot.0 slot.1 → Elsewhere side a x kept → Elsewhere side a x (put_path kept p v)
  elsewhere_still a x [] apart away = ((slot, is, apart), tt)
  elsewhere_still a x (k ∷ ks) apart away = go (same_path k.0 p) (elsewhere_still a x ks apart away.1)
    where
      go : (b : Bool) → Elsewhere side a x (put_path ks p v) → Elsewhere side a x (if b then (p, v) ∷ ks else k ∷ put_path ks p v)
      go true ih = ((slot, is, apart), away.1)
      go false ih = (away.0, ih)

  stands_still : (kept : Kept) → Stands side kept → Stands side (put_path kept p v)
  stands_still [] stands = ((slot, is, spelled, tt), tt)
  stands_still (k ∷ ks) stands = go (same_path k.0 p) refl (stands_still ks stands.1)
    where
      go : (b : Bool) → same_path k.0 p ≡ b → Stands side (put_path ks p v) → Stands side (if b then (p, v) ∷ ks else k ∷ put_path ks p v)
      go true f ih =
          let slots : stands.0.0 ≡ slot = some_same (sym stands.0.1 ∙ ap (slot_of side) (same_paths side k.0 p f) ∙ is) in
          let away : Elsewhere side slot.0 slot.1 ks = subst (λ (s : Slot). Elsewhere side s.0 s.1 ks) slots stands.0.3 in
          ((slot, is, spelled, away), stands.1)
      go false f ih =
          let own = stands.0.0 in
          let apart = apart_by side own.0 own.1 slot.0 slot.1 (ap (λ q. same_path q (path_at side slot.0 slot.1)) (sym stands.0.2) ∙ ap (λ q. same_path k.0 q) (sym spelled) ∙ f) in
          ((own, stands.0.1, stands.0.2, elsewhere_still own.0 own.1 ks apart stands.0.3), ih)

-- a slot that a path has is that of its own path

abbrev Fits : Side → Slot → Type 0
Fits Request (Header, x) = Unit {0}
Fits Request (Query, x) = Unit {0}
Fits Request (Path, x) = Unit {0}
Fits Request (Status, x) = ⊥
Fits Response (Header, x) = Unit {0}
Fits Response (Query, x) = ⊥
Fits Response (Path, x) = ⊥
Fits Response (Status, x) = x ≡ []

named_fits : (side : Side) (part : Part) (rest : List (List ℕ)) (slot : Slot) → ((x : List ℕ) → Fits side (part, x)) → named part rest ≡ Some slot → Fits side slot
named_fits side part [] slot fits e = absurd (none_some e)
named_fits side part (x ∷ []) slot fits e = subst (Fits side) (some_same e) (fits x)
named_fits side part (x ∷ y ∷ more) slot fits e = absurd (none_some e)

bare_fits : (rest : List (List ℕ)) (slot : Slot) → bare Status rest ≡ Some slot → Fits Response slot
bare_fits rest slot e = go (length rest == 0) e
  where
    go : (b : Bool) → (if b then Some (Status, []) else None) ≡ Some slot → Fits Response slot
    go true e = subst (Fits Response) (some_same e) refl
    go false e = absurd (none_some e)

request_fits : (x : List ℕ) (rest : List (List ℕ)) (slot : Slot) → request_part x rest ≡ Some slot → Fits Request slot
request_fits x rest slot e = go (bytes_eq x (codes "header")) (bytes_eq x (codes "querystring")) (bytes_eq x (codes "path")) e
  where
    go : (a b c : Bool) → (if a then named Header rest else if b then named Query rest else if c then named Path rest else None) ≡ Some slot → Fits Request slot
    go true b c e = named_fits Request Header rest slot (λ x. tt) e
    go false true c e = named_fits Request Query rest slot (λ x. tt) e
    go false false true e = named_fits Request Path rest slot (λ x. tt) e
    go false false false e = absurd (none_some e)

response_fits : (x : List ℕ) (rest : List (List ℕ)) (slot : Slot) → response_part x rest ≡ Some slot → Fits Response slot
response_fits x rest slot e = go (bytes_eq x (codes "header")) (bytes_eq x (codes "status")) e
  where
    go : (a b : Bool) → (if a then named Header rest else if b then bare Status rest else None) ≡ Some slot → Fits Response slot
    go true b e = named_fits Response Header rest slot (λ x. tt) e
    go false true e = bare_fits rest slot e
    go false false e = absurd (none_some e)

below_fits : (side : Side) (rest : List (List ℕ)) (slot : Slot) → part_below side rest ≡ Some slot → Fits side slot
below_fits Request [] slot e = absurd (none_some e)
below_fits Response [] slot e = absurd (none_some e)
below_fits Request (x ∷ rest) slot e = request_fits x rest slot e
below_fits Response (x ∷ rest) slot e = response_fits x rest slot e

slot_fits : (side : Side) (path : List (List ℕ)) (slot : Slot) → slot_of side path ≡ Some slot → Fits side slot
unfolding slot_of
slot_fits side [] slot e = absurd (none_some e)
slot_fits side (x ∷ rest) slot e = go (bytes_eq x (group_of side)) e
  where
    go : (b : Bool) → (if b then part_below side rest else None) ≡ Some slot → Fits side slot
    go true e = below_fits side rest slot e
    go false e = absurd (none_some e)

again : (side : Side) (slot : Slot) → Fits side slot → slot_of side (path_at side slot.0 (kept_name slot.0 slot.1)) ≡ Some (slot.0, kept_name slot.0 slot.1)
unfolding slot_of
again Request (Header, x) fits = refl
again Request (Query, x) fits = refl
again Request (Path, x) fits = refl
again Request (Status, x) fits = absurd fits
again Response (Header, x) fits = refl
again Response (Query, x) fits = absurd fits
again Response (Path, x) fits = absurd fits
again Response (Status, x) fits = ap (λ y. Some (Status, y)) (sym fits)

-- one write, and all

abbrev own_slot : Slot → Slot
own_slot slot = (slot.0, kept_name slot.0 slot.1)

wrote_one : (side : Side) (kept : Kept) (w : List (List ℕ) × Val) → Stands side kept
    → Stands side (wrote side kept w) × (overridden side (wrote side kept w) ≡ put_over side (overridden side kept) w)
wrote_one side kept w stands = go (slot_of side w.0) refl
  where
    go : (found : Option Slot) → slot_of side w.0 ≡ found
        → Stands side (kept_after (option_map (λ slot. path_at side slot.0 slot.1) (option_map own_slot found)) kept w.1)
        × (overridden side (kept_after (option_map (λ slot. path_at side slot.0 slot.1) (option_map own_slot found)) kept w.1)
        ≡ changed_by (overridden side kept) (option_map own_slot found) (printed w.1))
    go None e = (stands, refl)
    go (Some slot) e =
        let own = own_slot slot in
        let path = path_at side own.0 own.1 in
        let is : slot_of side path ≡ Some own = again side slot (slot_fits side w.0 slot e) in (
          stands_still side path w.1 own is refl kept stands,
          written_once side kept nothing path w.1 own stands is,
        )

all_writes : (side : Side) (writes : List (List (List ℕ) × Val)) (kept : Kept) → Stands side kept
    → overridden side (fold (wrote side) kept writes) ≡ fold (put_over side) (overridden side kept) writes
all_writes side [] kept stands = refl
all_writes side (w ∷ ws) kept stands =
    let one = wrote_one side kept w stands in
    all_writes side ws (wrote side kept w) one.0 ∙ ap (λ o. fold (put_over side) o ws) one.1

pub last_writes : LastWritesCount
last_writes side writes = all_writes side writes [] tt
