-- The names of an object, with one more.
use Rattle.std.proofs.Common.{◌≡◌, ℕ, suc, ◌<◌, List, [], ◌∷◌, ◌++◌, length, refl, sym, ap, ◌∙◌, arith, Bool, true, false, true≢false, map, Option, Some, None, option_map, get_or}
use Rattle.std.specs.Prelude.{if◌then◌else◌, is_some, String}
use Rattle.std.specs.BTreeMap.{BTreeMap}
use Rattle.std.specs.Str.{bytes_eq}
use Rattle.std.specs.String.{string_bytes}
use Rattle.std.specs.declared.alloc.Global.{Global}
use Rattle.std.proofs.lemmas.Slice.Eq.{bytes_eq-Decides}
use Rattle.json_subset.specs.Tree.{Tree}
use Rattle.json_subset.specs.Reading.{named, names_of}
use Rattle.json_subset.specs.Nodes.{member_at}
use Rattle.json_subset.specs.Numbered.{number_named, names_in, place_named, has_name, HasPlaces, IsEntered}
use Rattle.json_subset.specs.Opened.{HasNames}
use Rattle.json_subset.specs.declared.turn.Members.{Members}

pub named_push : (xs : List (List ℕ)) (x q : List ℕ) → named (xs ++ x ∷ []) q ≡ (if bytes_eq x q then true else named xs q)
named_push [] x q = refl
named_push (y ∷ xs) x q = go (bytes_eq y q) (bytes_eq x q) _ _ (named_push xs x q)
  where
    go : (a b r s : Bool) → r ≡ (if b then true else s) → (if a then true else r) ≡ (if b then true else if a then true else s)
    go true true r s e = refl
    go true false r s e = refl
    go false b r s e = e

names_in_push : (ms : List (String Global × ℕ)) (m : String Global × ℕ) → names_in (ms ++ m ∷ []) ≡ names_in ms ++ string_bytes m.0 ∷ []
names_in_push [] m = refl
names_in_push (k ∷ ms) m = ap (λ z. string_bytes k.0 ∷ z) (names_in_push ms m)

names_count : (ms : List (String Global × ℕ)) → length (names_in ms) ≡ length ms
names_count [] = refl
names_count (m ∷ ms) = ap suc (names_count ms)

-- a name has a place just where it is among the names
placed_named : (xs : List (List ℕ)) (q : List ℕ) → is_some (place_named xs q) ≡ named xs q
placed_named [] q = refl
placed_named (x ∷ xs) q = go (bytes_eq x q) (place_named xs q) (placed_named xs q)
  where
    go : (b : Bool) (o : Option ℕ) → is_some o ≡ named xs q → is_some (if b then Some 0 else option_map suc o) ≡ (if b then true else named xs q)
    go true o e = refl
    go false None e = e
    go false (Some i) e = e

-- a new name has the place behind all others
place_push : (xs : List (List ℕ)) (x q : List ℕ) → is_some (place_named xs x) ≡ false → place_named (xs ++ x ∷ []) q ≡ (if bytes_eq x q then Some (length xs) else place_named xs q)
place_push [] x q = λ e. refl
place_push (y ∷ xs) x q = go (bytes_eq y x) refl (place_named xs x) (place_push xs x q)
  where
    pick : (s t : Bool) (o : Option ℕ) → (s ≡ true → t ≡ true → ⊥)
        → (if s then Some 0 else option_map suc (if t then Some (length xs) else o)) ≡ (if t then Some (length (y ∷ xs)) else (if s then Some 0 else option_map suc o))
    pick true true o apart = absurd (apart refl refl)
    pick true false o apart = refl
    pick false true o apart = refl
    pick false false o apart = refl

    none : (o : Option ℕ) → is_some (option_map suc o) ≡ false → is_some o ≡ false
    none None e = refl
    none (Some i) e = absurd (true≢false e)

    go : (b : Bool) → bytes_eq y x ≡ b → (o : Option ℕ)
        → (is_some o ≡ false → place_named (xs ++ x ∷ []) q ≡ (if bytes_eq x q then Some (length xs) else place_named xs q))
        → is_some (if b then Some 0 else option_map suc o) ≡ false
        → (if bytes_eq y q then Some 0 else option_map suc (place_named (xs ++ x ∷ []) q)) ≡ (if bytes_eq x q then Some (length (y ∷ xs)) else (if bytes_eq y q then Some 0 else option_map suc (place_named xs q)))
    go true same o more e = absurd (true≢false e)
    go false other o more e =
        ap (λ z. if bytes_eq y q then Some 0 else option_map suc z) (more (none o e))
        ∙ pick (bytes_eq y q) (bytes_eq x q) (place_named xs q)
        (λ s t. true≢false (sym ((bytes_eq-Decides y x).1 ((bytes_eq-Decides y q).0 s ∙ sym ((bytes_eq-Decides x q).0 t))) ∙ other))

-- an index that changed at a name alone, which it had not
pub entered : (old new : List ℕ → Option ℕ) (x : List ℕ) (count : ℕ) → is_some (old x) ≡ false → ((q : List ℕ) → new q ≡ (if bytes_eq x q then Some count else old q)) → (xs : List (List ℕ)) → length xs ≡ count → ((q : List ℕ) → old q ≡ place_named xs q) → (q : List ℕ) → new q ≡ place_named (xs ++ x ∷ []) q
entered old new x count fresh updates xs e places q =
    updates q
    ∙ ap (λ n. if bytes_eq x q then Some n else old q) (sym e)
    ∙ ap (λ o. if bytes_eq x q then Some (length xs) else o) (places q)
    ∙ sym (place_push xs x q (sym (ap is_some (places x)) ∙ fresh))

-- a name's place is a member's
pub within : (ms : List (String Global × ℕ)) (q : List ℕ) (i : ℕ) → place_named (names_in ms) q ≡ Some i → i < length ms
within [] q i = λ e. absurd cc
within (m ∷ ms) q i = go (bytes_eq (string_bytes m.0) q) (place_named (names_in ms) q) (within ms q)
  where
    go : (b : Bool) (o : Option ℕ) → ((j : ℕ) → o ≡ Some j → j < length ms) → (if b then Some 0 else option_map suc o) ≡ Some i → i < length (m ∷ ms)
    go true o more e = let zeroth : 0 ≡ i = cc in omega (arith, zeroth)
    go false None more e = absurd cc
    go false (Some j) more e = let next : suc j ≡ i = cc in let less = more j refl in omega (arith, next, less)

-- the member there is the first of its name
pub placed : (ms : List (String Global × ℕ)) (q : List ℕ) (i : ℕ) (d : String Global × ℕ) → place_named (names_in ms) q ≡ Some i → number_named ms q ≡ Some (get_or ms i d).1
placed [] q i d = λ e. absurd cc
placed (m ∷ ms) q i d = go (bytes_eq (string_bytes m.0) q) (place_named (names_in ms) q) (λ j. placed ms q j d)
  where
    go : (b : Bool) (o : Option ℕ) → ((j : ℕ) → o ≡ Some j → number_named ms q ≡ Some (get_or ms j d).1)
        → (if b then Some 0 else option_map suc o) ≡ Some i
        → (if b then Some m.1 else number_named ms q) ≡ Some (get_or (m ∷ ms) i d).1
    go true o more e =
        let zeroth : 0 ≡ i = cc in
        ap (λ k. Some (get_or (m ∷ ms) k d).1) zeroth
    go false None more e = absurd cc
    go false (Some j) more e =
        let next : suc j ≡ i = cc in
        more j refl ∙ ap (λ k. Some (get_or (m ∷ ms) k d).1) next

-- a name without a place is no member's
pub unplaced : (ms : List (String Global × ℕ)) (q : List ℕ) → place_named (names_in ms) q ≡ None → number_named ms q ≡ None
unplaced [] q = λ e. refl
unplaced (m ∷ ms) q = go (bytes_eq (string_bytes m.0) q) (place_named (names_in ms) q) (unplaced ms q)
  where
    go : (b : Bool) (o : Option ℕ) → (o ≡ None → number_named ms q ≡ None) → (if b then Some 0 else option_map suc o) ≡ None → (if b then Some m.1 else number_named ms q) ≡ None
    go true o more e = absurd cc
    go false None more e = more refl
    go false (Some j) more e = absurd cc

names_of_tree : (f : ℕ → Tree) (ms : List (String Global × ℕ)) → names_of (map (member_at f) ms) ≡ names_in ms
names_of_tree f [] = refl
names_of_tree f (m ∷ ms) = ap (λ z. string_bytes m.0 ∷ z) (names_of_tree f ms)

names_of_push : (ms : List (List ℕ × Tree)) (m : List ℕ × Tree) → names_of (ms ++ m ∷ []) ≡ names_of ms ++ m.0 ∷ []
names_of_push [] m = refl
names_of_push (k ∷ ms) m = ap (λ z. k.0 ∷ z) (names_of_push ms m)

-- what the index has is what the members have
pub names_same : (f : ℕ → Tree) (m : Members) (t : Tree) → HasNames m → (q : List ℕ) → has_name m.names q ≡ named (names_of (map (member_at f) m.before.items ++ (string_bytes m.name, t) ∷ [])) q
names_same f m t h q =
    ap is_some (h q)
    ∙ placed_named (names_in m.before.items ++ string_bytes m.name ∷ []) q
    ∙ ap (λ z. named (z ++ string_bytes m.name ∷ []) q) (sym (names_of_tree f m.before.items))
    ∙ ap (λ z. named z q) (sym (names_of_push (map (member_at f) m.before.items) (string_bytes m.name, t)))

-- the places of the names so far are those of the members
names_members : (m : Members) (k : ℕ) → HasNames m → HasPlaces (names_in (m.before.items ++ (m.name, k) ∷ [])) m.names
names_members m k h q = h q ∙ ap (λ z. place_named z q) (sym (names_in_push m.before.items (m.name, k)))

-- one more name behind the members
pub names_entered : (m : Members) (k : ℕ) (x : List ℕ) (new : BTreeMap (String Global) ℕ) → HasNames m → IsEntered (length (m.before.items ++ (m.name, k) ∷ [])) x m.names new → HasPlaces (names_in (m.before.items ++ (m.name, k) ∷ []) ++ x ∷ []) new
names_entered m k x new h entry = entry (names_in (m.before.items ++ (m.name, k) ∷ [])) (names_count (m.before.items ++ (m.name, k) ∷ [])) (names_members m k h)
