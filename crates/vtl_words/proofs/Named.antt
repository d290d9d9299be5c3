-- Names by their bytes.
use Rattle.std.proofs.Common.{◌≡◌, ℕ, suc, List, [], ◌∷◌, ◌++◌, length, Bool, true, false, Option, Some, None, refl, sym, ap, ◌∙◌}
use Rattle.std.specs.Prelude.{is_some, option_map, bytes_eq, if◌then◌else◌, ◌||◌}
use Rattle.std.specs.Cmp.Lexicographic.{slice_cmp, nat_list_cmp_total, nat_list_eq_equiv}
use Rattle.std.specs.Cmp.{eq_by_cmp_equiv}
use Rattle.std.specs.Ordering.{nat_cmp, is_eq, eq_by_cmp}
use Rattle.std.specs.Global.{Vec}
use Rattle.std.specs.Map.{KeepsOthers}
use Rattle.std.specs.BTreeMap.{BTreeMap, UpdatesBy}
use Rattle.std.proofs.lemmas.Slice.Eq.{bytes_eq-Decides}
use Rattle.std.proofs.lemmas.Map.Text.{is_eq-slice_cmp}
use Rattle.vtl_grammar.specs.Bytes.{is_one_of}
use Rattle.vtl_grammar.specs.Calls.{first_of}
use Rattle.vtl_words.specs.Names.{place_of, get_by_bytes}

some_place : (b : Bool) (o : Option ℕ) (c : Bool) → is_some o ≡ c → is_some (elim b as (λ _. Option ℕ) [ true ↦ Some 0 | false ↦ option_map suc o ]) ≡ (b || c)
some_place true o c e = refl
some_place false None c e = e
some_place false (Some n) c e = e

-- a name has a place where it is one of them
pub one_of_place : (names : List (List ℕ)) (x : List ℕ) → is_some (place_of names x) ≡ is_one_of names x
one_of_place [] x = refl
one_of_place (w ∷ ws) x = some_place (bytes_eq w x) (place_of ws x) (is_one_of ws x) (one_of_place ws x)

pushed_place : (b : Bool) (o p r : Option ℕ) → p ≡ first_of o r → (elim b as (λ _. Option ℕ) [ true ↦ Some 0 | false ↦ option_map suc p ]) ≡ first_of (elim b as (λ _. Option ℕ) [ true ↦ Some 0 | false ↦ option_map suc o ]) (option_map suc r)
pushed_place true o p r e = refl
pushed_place false None p r e = ap (option_map suc) e
pushed_place false (Some n) p r e = ap (option_map suc) e

later : (b : Bool) (n : ℕ) → option_map suc (if b then Some n else None) ≡ (if b then Some (suc n) else None)
later true n = refl
later false n = refl

last_place : (b : Bool) → (elim b as (λ _. Option ℕ) [ true ↦ Some 0 | false ↦ option_map suc None ]) ≡ (if b then Some 0 else None)
last_place true = refl
last_place false = refl

-- the places with one more name
pub place_push : (names : List (List ℕ)) (w x : List ℕ) → place_of (names ++ w ∷ []) x ≡ first_of (place_of names x) (if bytes_eq w x then Some (length names) else None)
place_push [] w x = last_place (bytes_eq w x)
place_push (v ∷ vs) w x =
    pushed_place (bytes_eq v x) (place_of vs x) (place_of (vs ++ w ∷ []) x) (if bytes_eq w x then Some (length vs) else None) (place_push vs w x)
    ∙ ap (first_of (place_of (v ∷ vs) x)) (later (bytes_eq w x) (length vs))

-- a look-up by other bytes than those of a change finds what it found

apart : (bs cs ks : List ℕ) → bytes_eq bs cs ≡ false → bytes_eq bs ks ≡ true → bytes_eq cs ks ≡ false
apart bs cs ks n y = nat_list_eq_equiv.symm cs ks ∙ sym (nat_list_eq_equiv.congr bs ks cs y) ∙ n

apart_in_order : (bs cs ks : List ℕ) → bytes_eq bs cs ≡ false → is_eq (slice_cmp nat_cmp bs ks) ≡ true → is_eq (slice_cmp nat_cmp cs ks) ≡ false
apart_in_order bs cs ks n y = is_eq-slice_cmp cs ks ∙ apart bs cs ks n (sym (is_eq-slice_cmp bs ks) ∙ y)

others : (bs cs : List ℕ) (m n : BTreeMap (Vec ℕ) ℕ) → KeepsOthers (eq_by_cmp (λ x y. slice_cmp nat_cmp x.items y.items)) (λ k. is_eq (slice_cmp nat_cmp bs k.items)) m.entries n.entries → bytes_eq bs cs ≡ false → get_by_bytes n cs ≡ get_by_bytes m cs
unfolding KeepsOthers
others bs cs m n h e = h (λ k. is_eq (slice_cmp nat_cmp cs k.items)) (λ x y. (eq_by_cmp_equiv nat_list_cmp_total).congr cs x.items y.items) (λ k. apart_in_order bs cs k.items e)

-- the places where a name takes one
pub taken_place : (bs : List ℕ) (k : ℕ) (m n : BTreeMap (Vec ℕ) ℕ) → UpdatesBy (λ x y. slice_cmp nat_cmp x.items y.items) (λ x. slice_cmp nat_cmp bs x.items) m n (Some k) → is_some (get_by_bytes m bs) ≡ false → (q : List ℕ) → get_by_bytes n q ≡ first_of (get_by_bytes m q) (if bytes_eq bs q then Some k else None)
taken_place bs k m n h none q = go (bytes_eq bs q) refl
  where
    takes : (o : Option ℕ) → is_some o ≡ false → Some k ≡ first_of o (Some k)
    takes None e = refl
    takes (Some j) e = absurd cc

    first_none : (o : Option ℕ) → o ≡ first_of o None
    first_none None = refl
    first_none (Some j) = refl

    go : (b : Bool) → bytes_eq bs q ≡ b → get_by_bytes n q ≡ first_of (get_by_bytes m q) (if b then Some k else None)
    go true e = let same : bs ≡ q = (bytes_eq-Decides bs q).0 e in ap (get_by_bytes n) (sym same) ∙ h.1 ∙ takes (get_by_bytes m q) (ap (λ z. is_some (get_by_bytes m z)) (sym same) ∙ none)
    go false e = others bs q m n h.3 e ∙ first_none (get_by_bytes m q)

-- a name that has a place keeps it
pub kept_place : (get : List ℕ → Option ℕ) (name : List ℕ) (k : ℕ) → is_some (get name) ≡ true → (q : List ℕ) → get q ≡ first_of (get q) (if bytes_eq name q then Some k else None)
kept_place get name k h q = go (bytes_eq name q) refl
  where
    keeps : (o : Option ℕ) → is_some o ≡ true → o ≡ first_of o (Some k)
    keeps None e = absurd cc
    keeps (Some j) e = refl

    first_none : (o : Option ℕ) → o ≡ first_of o None
    first_none None = refl
    first_none (Some j) = refl

    go : (b : Bool) → bytes_eq name q ≡ b → get q ≡ first_of (get q) (if b then Some k else None)
    go true e = let same : name ≡ q = (bytes_eq-Decides name q).0 e in keeps (get q) (ap (λ z. is_some (get z)) (sym same) ∙ h)
    go false e = first_none (get q)
