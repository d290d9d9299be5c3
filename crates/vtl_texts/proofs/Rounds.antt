-- The parts of a text, and what joins them.
use Rattle.std.proofs.Common.{◌≡◌, ℕ, zero, suc, ◌+◌, ◌<◌, ◌≤◌, List, [], ◌∷◌, ◌++◌, length, map, Bor, Option, Some, None, refl, sym, ap, ◌∙◌, arith, length-append}
use Rattle.std.proofs.lemmas.List.{append_assoc, map-append}
use Rattle.std.specs.Option.{option_map_or}
use Rattle.vtl_texts.specs.Places.{cut, parts_within, parts, joined, exchanged}
use Rattle.vtl_texts.proofs.Cuts.{cut_splits}

-- what is behind a cut is shorter
pub cut_shorter : (t s : List ℕ) (c : List ℕ × List ℕ) → 0 < length s → cut t s ≡ Some c → length c.0 + length s + length c.1 ≡ length t
cut_shorter t s c some e = omega (arith, ap length (cut_splits t s c e), length-append c.0 (s ++ c.1), length-append s c.1)

cut_of_empty : (t s : List ℕ) (o : Option (List ℕ × List ℕ)) → 0 < length s → length t ≤ 0 → cut t s ≡ o → o ≡ None
cut_of_empty t s None some short e = refl
cut_of_empty t s (Some c) some short e = absurd (omega (arith, cut_shorter t s c some e))

-- as many parts as bytes are enough
enough_by : (n m : ℕ) (t s : List ℕ) (o : Option (List ℕ × List ℕ)) → 0 < length s → cut t s ≡ o → length t ≤ suc n → length t ≤ suc m → ((u : List ℕ) → length u ≤ n → length u ≤ m → parts_within n u s ≡ parts_within m u s) → option_map_or (λ c. c.0 ∷ parts_within n c.1 s) o (t ∷ []) ≡ option_map_or (λ c. c.0 ∷ parts_within m c.1 s) o (t ∷ [])
enough_by n m t s None some e l k ih = refl
enough_by n m t s (Some c) some e l k ih =
    let shorter = cut_shorter t s c some e in
    ap (λ (ps : List (List ℕ)). c.0 ∷ ps) (ih c.1 (omega (arith, shorter)) (omega (arith, shorter)))

pub enough : (n m : ℕ) (s : List ℕ) → 0 < length s → (t : List ℕ) → length t ≤ n → length t ≤ m → parts_within n t s ≡ parts_within m t s
enough zero zero s some t l k = refl
enough zero (suc m) s some t l k = rw (cut_of_empty t s (cut t s) some l refl)
enough (suc n) zero s some t l k = rw (cut_of_empty t s (cut t s) some k refl)
enough (suc n) (suc m) s some t l k = enough_by n m t s (cut t s) some refl l k (enough n m s some)

-- the parts of a text that is cut, and of one that is not
pub parts_cut : (t s : List ℕ) (c : List ℕ × List ℕ) → 0 < length s → cut t s ≡ Some c → parts t s ≡ c.0 ∷ parts c.1 s
unfolding parts
parts_cut t s c some e =
    let shorter = cut_shorter t s c some e in
    let more : parts_within (length t) t s ≡ parts_within (suc (length t)) t s = enough (length t) (suc (length t)) s some t (omega arith) (omega arith) in
    let rest : parts_within (length t) c.1 s ≡ parts_within (length c.1) c.1 s = enough (length t) (length c.1) s some c.1 (omega arith) (omega arith) in
    more ∙ rw (e, rest)

pub parts_whole : (t s : List ℕ) → 0 < length s → cut t s ≡ None → parts t s ≡ t ∷ []
unfolding parts
parts_whole t s some e =
    let more : parts_within (length t) t s ≡ parts_within (suc (length t)) t s = enough (length t) (suc (length t)) s some t (omega arith) (omega arith) in
    more ∙ rw e

parts_by : (t s : List ℕ) (o : Option (List ℕ × List ℕ)) → 0 < length s → cut t s ≡ o → (p : List ℕ) × (ps : List (List ℕ)) × (parts t s ≡ p ∷ ps)
parts_by t s None some e = (t, [], parts_whole t s some e)
parts_by t s (Some c) some e = (c.0, parts c.1 s, parts_cut t s c some e)

-- there is a part
pub parts_some : (t s : List ℕ) → 0 < length s → (p : List ℕ) × (ps : List (List ℕ)) × (parts t s ≡ p ∷ ps)
parts_some t s some = parts_by t s (cut t s) some refl

-- one more text is exchanged
pub exchanged_cut : (t s r : List ℕ) (c : List ℕ × List ℕ) → 0 < length s → cut t s ≡ Some c → exchanged t s r ≡ c.0 ++ (r ++ exchanged c.1 s r)
unfolding exchanged
exchanged_cut t s r c some e =
    let next = parts_some c.1 s some in
    let all : parts t s ≡ c.0 ∷ (next.0 ∷ next.1) = parts_cut t s c some e ∙ ap (λ (ps : List (List ℕ)). c.0 ∷ ps) next.2 in
    rw (all, next.2)

pub exchanged_whole : (t s r : List ℕ) → 0 < length s → cut t s ≡ None → exchanged t s r ≡ t
unfolding exchanged
exchanged_whole t s r some e = rw (parts_whole t s some e)

-- how long these are
pub exchanged_length_cut : (t s r a b : List ℕ) → 0 < length s → Some (a, b) ≡ cut t s → length (exchanged t s r) ≡ length a + (length r + length (exchanged b s r))
exchanged_length_cut t s r a b some e =
    let cut_here = exchanged_cut t s r (a, b) some (sym e) in
    ap length cut_here ∙ omega (arith, length-append a (r ++ exchanged b s r), length-append r (exchanged b s r))

pub exchanged_length_whole : (t s r : List ℕ) → 0 < length s → None ≡ cut t s → length (exchanged t s r) ≡ length t
exchanged_length_whole t s r some e = ap length (exchanged_whole t s r some (sym e))

pub behind_shorter : (t s a b : List ℕ) → 0 < length s → Some (a, b) ≡ cut t s → length b < length t
behind_shorter t s a b some e = omega (arith, cut_shorter t s (a, b) some (sym e))

-- one more part is written, and the text put in the place of what it ends at
pub written_cut : (made one two t s r a b : List ℕ) → 0 < length s → Some (a, b) ≡ cut t s → one ≡ made ++ a → two ≡ one ++ r → two ++ exchanged b s r ≡ made ++ exchanged t s r
written_cut made one two t s r a b some e h k =
    let step = exchanged_cut t s r (a, b) some (sym e) in
    rw (k, h, step, append_assoc, append_assoc)

pub written_whole : (made all t s r : List ℕ) → 0 < length s → None ≡ cut t s → all ≡ made ++ t → all ≡ made ++ exchanged t s r
written_whole made all t s r some e h = h ∙ ap (λ (xs : List ℕ). made ++ xs) (sym (exchanged_whole t s r some (sym e)))

-- one more part is gathered
pub gathered_cut : (old new : List (Bor (List ℕ))) (t s : List ℕ) (a b : Bor (List ℕ)) → 0 < length s → Some (a.now, b.now) ≡ cut t s → new ≡ old ++ (a ∷ []) → map (λ p. p.now) new ++ parts b.now s ≡ map (λ p. p.now) old ++ parts t s
gathered_cut old new t s a b some e h =
    let step = parts_cut t s (a.now, b.now) some (sym e) in
    rw (h, map-append, step, append_assoc)

pub gathered_whole : (old new : List (Bor (List ℕ))) (s : List ℕ) (a : Bor (List ℕ)) → 0 < length s → None ≡ cut a.now s → new ≡ old ++ (a ∷ []) → map (λ p. p.now) new ≡ map (λ p. p.now) old ++ parts a.now s
gathered_whole old new s a some e h =
    let step = parts_whole a.now s some (sym e) in
    rw (h, map-append, step)

-- an empty text is one part
pub parts_empty : (t s : List ℕ) → length t ≡ 0 → parts t s ≡ [] ∷ []
unfolding parts
parts_empty [] s e = refl
parts_empty (b ∷ t) s e = absurd (omega arith)

-- the parts with s between each two are the text
parts_more : (n : ℕ) (t s : List ℕ) → (p : List ℕ) × (ps : List (List ℕ)) × (parts_within n t s ≡ p ∷ ps)
parts_more zero t s = (t, [], refl)
parts_more (suc n) t s = go (cut t s)
  where
    go : (o : Option (List ℕ × List ℕ)) → (p : List ℕ) × (ps : List (List ℕ)) × (option_map_or (λ c. c.0 ∷ parts_within n c.1 s) o (t ∷ []) ≡ p ∷ ps)
    go None = (t, [], refl)
    go (Some c) = (c.0, parts_within n c.1 s, refl)

same_by : (n : ℕ) (t s : List ℕ) (o : Option (List ℕ × List ℕ)) → cut t s ≡ o → ((u : List ℕ) → joined s (parts_within n u s) ≡ u) → joined s (option_map_or (λ c. c.0 ∷ parts_within n c.1 s) o (t ∷ [])) ≡ t
same_by n t s None e inner = refl
same_by n t s (Some c) e inner =
    let next = parts_more n c.1 s in
    let rest : joined s (next.0 ∷ next.1) ≡ c.1 = ap (joined s) (sym next.2) ∙ inner c.1 in
    ap (λ (ps : List (List ℕ)). joined s (c.0 ∷ ps)) next.2 ∙ ap (λ (u : List ℕ). c.0 ++ (s ++ u)) rest ∙ sym (cut_splits t s c e)

joined_same : (n : ℕ) (s t : List ℕ) → joined s (parts_within n t s) ≡ t
joined_same zero s t = refl
joined_same (suc n) s t = same_by n t s (cut t s) refl (joined_same n s)

-- a text that is put in its own place changes nothing
pub exchanged_same : (t s r : List ℕ) → s ≡ r → exchanged t s r ≡ t
unfolding exchanged parts
exchanged_same t s r e = ap (λ (u : List ℕ). joined u (parts_within (length t) t s)) (sym e) ∙ joined_same (length t) s t

-- a text that is as long as what it is put in the place of changes no length
long_by : (n : ℕ) (t s r : List ℕ) (o : Option (List ℕ × List ℕ)) → length s ≡ length r → cut t s ≡ o → ((u : List ℕ) → length (joined r (parts_within n u s)) ≡ length u) → length (joined r (option_map_or (λ c. c.0 ∷ parts_within n c.1 s) o (t ∷ []))) ≡ length t
long_by n t s r None l e inner = refl
long_by n t s r (Some c) l e inner =
    let next = parts_more n c.1 s in
    let more = joined r (next.0 ∷ next.1) in
    let rest : length more ≡ length c.1 = ap (λ (ps : List (List ℕ)). length (joined r ps)) (sym next.2) ∙ inner c.1 in
    let all : length (c.0 ++ (r ++ more)) ≡ length t = omega (arith, rest, l, ap length (cut_splits t s c e), length-append c.0 (r ++ more), length-append r more, length-append c.0 (s ++ c.1), length-append s c.1) in
    ap (λ (ps : List (List ℕ)). length (joined r (c.0 ∷ ps))) next.2 ∙ all

joined_long : (n : ℕ) (s r : List ℕ) → length s ≡ length r → (t : List ℕ) → length (joined r (parts_within n t s)) ≡ length t
joined_long zero s r l t = refl
joined_long (suc n) s r l t = long_by n t s r (cut t s) l refl (joined_long n s r l)

pub exchanged_as_long : (t s r : List ℕ) → length s ≡ length r → length (exchanged t s r) ≡ length t
unfolding exchanged parts
exchanged_as_long t s r l = joined_long (length t) s r l t
