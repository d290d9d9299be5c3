-- A text without the blanks at its ends, and parts without the empty ones at their end.
use Rattle.std.proofs.Common.{◌≡◌, ◌≢◌, ℕ, ◌+◌, ◌<◌, ◌≤◌, List, [], ◌∷◌, ◌++◌, length, take, get_or, ◌-◌, map, Bor, subst, refl, sym, ap, ◌∙◌, arith, le-leb, eq-eqb, ne_eqb}
use Rattle.std.proofs.lemmas.Bool.{lt-leb}
use Rattle.std.proofs.lemmas.List.{take_more, take_all, map-append}
use Rattle.vtl_texts.specs.Characters.{without_start, without_end, kept_before}
use Rattle.vtl_texts.specs.Places.{without_empty_end, part_before}

-- the first byte goes where it is blank
pub without_start_blank : (b : ℕ) (t : List ℕ) → b ≤ 32 → without_start (b ∷ t) ≡ without_start t
without_start_blank b t l = rw (le-leb b 32 l)

pub without_start_other : (b : ℕ) (t : List ℕ) → 32 < b → without_start (b ∷ t) ≡ b ∷ t
without_start_other b t l = rw (lt-leb b 32 l)

-- and the last
pub without_end_blank : (t : List ℕ) (b : ℕ) → b ≤ 32 → without_end (t ++ (b ∷ [])) ≡ without_end t
without_end_blank [] b l = rw (le-leb b 32 l)
without_end_blank (c ∷ t) b l = ap (kept_before c) (without_end_blank t b l)

kept_before_more : (c : ℕ) (t : List ℕ) (b : ℕ) → kept_before c (t ++ (b ∷ [])) ≡ c ∷ (t ++ (b ∷ []))
kept_before_more c [] b = refl
kept_before_more c (d ∷ t) b = refl

pub without_end_other : (t : List ℕ) (b : ℕ) → 32 < b → without_end (t ++ (b ∷ [])) ≡ t ++ (b ∷ [])
without_end_other [] b l = rw (lt-leb b 32 l)
without_end_other (c ∷ t) b l = ap (kept_before c) (without_end_other t b l) ∙ kept_before_more c t b

-- the last part goes where it is empty
pub without_empty_last : (ps : List (List ℕ)) (p : List ℕ) → length p ≡ 0 → without_empty_end (ps ++ (p ∷ [])) ≡ without_empty_end ps
without_empty_last [] p e = rw (eq-eqb (length p) 0 e)
without_empty_last (q ∷ ps) p e = ap (part_before q) (without_empty_last ps p e)

part_before_more : (q : List ℕ) (ps : List (List ℕ)) (p : List ℕ) → part_before q (ps ++ (p ∷ [])) ≡ q ∷ (ps ++ (p ∷ []))
part_before_more q [] p = refl
part_before_more q (r ∷ ps) p = refl

pub without_full_last : (ps : List (List ℕ)) (p : List ℕ) → length p ≢ 0 → without_empty_end (ps ++ (p ∷ [])) ≡ ps ++ (p ∷ [])
without_full_last [] p e = rw (ne_eqb (length p) 0 e)
without_full_last (q ∷ ps) p e = ap (part_before q) (without_full_last ps p e) ∙ part_before_more q ps p

-- one byte less at the end of the front of a text
take_last : (t : List ℕ) (k : ℕ) → 0 < k → k ≤ length t → take k t ≡ take (k - 1) t ++ (get_or t (k - 1) 0 ∷ [])
take_last t k some fits =
    let e : k ≡ k - 1 + 1 = omega arith in
    let l : k - 1 < length t = omega arith in
    ap (λ (n : ℕ). take n t) e ∙ take_more t (k - 1) 0 l

pub end_blank : (t : List ℕ) (k : ℕ) → 0 < k → k ≤ length t → get_or t (k - 1) 0 ≤ 32 → without_end (take (k - 1) t) ≡ without_end (take k t)
end_blank t k some fits small =
    sym (without_end_blank (take (k - 1) t) (get_or t (k - 1) 0) small) ∙ ap without_end (sym (take_last t k some fits))

pub end_other : (t : List ℕ) (k : ℕ) → 0 < k → k ≤ length t → 32 < get_or t (k - 1) 0 → take k t ≡ without_end (take k t)
end_other t k some fits large =
    take_last t k some fits ∙ sym (without_end_other (take (k - 1) t) (get_or t (k - 1) 0) large) ∙ ap without_end (sym (take_last t k some fits))

pub end_none : (t : List ℕ) (k : ℕ) → k ≤ 0 → take k t ≡ without_end (take k t)
end_none t k none = let e : k ≡ 0 = omega arith in rw e

-- the last of some parts, as a vector lends it
split_last : (xs : List (Bor (List ℕ))) (l : Bor (List ℕ)) → 0 < length xs → l ≡ get_or xs (length xs - 1) l → xs ≡ take (length xs - 1) xs ++ (l ∷ [])
split_last xs l some at =
    let n = length xs - 1 in
    let e : length xs ≡ n + 1 = omega arith in
    let w : n < length xs = omega arith in
    sym (take_all (length xs) xs (omega arith)) ∙ ap (λ (k : ℕ). take k xs) e ∙ take_more xs n l w ∙ ap (λ (y : Bor (List ℕ)). take n xs ++ (y ∷ [])) (sym at)

last_of : (xs : List (Bor (List ℕ))) (l : Bor (List ℕ)) → 0 < length xs → l ≡ get_or xs (length xs - 1) l → map (λ p. p.now) xs ≡ map (λ p. p.now) (take (length xs - 1) xs) ++ (l.now ∷ [])
last_of xs l some at =
    ap (λ (ys : List (Bor (List ℕ))). map (λ p. p.now) ys) (split_last xs l some at) ∙ map-append (λ (p : Bor (List ℕ)). p.now) (take (length xs - 1) xs) (l ∷ [])

pub full_end : (xs ys : List (Bor (List ℕ))) (l : Bor (List ℕ)) → xs ≡ ys → 0 < length xs → l ≡ get_or xs (length xs - 1) l → length l.now ≢ 0 → map (λ p. p.now) ys ≡ without_empty_end (map (λ p. p.now) ys)
full_end xs ys l same some at full =
    let e = last_of xs l some at in
    subst (λ (zs : List (Bor (List ℕ))). map (λ p. p.now) zs ≡ without_empty_end (map (λ p. p.now) zs)) same
    (e ∙ sym (without_full_last (map (λ p. p.now) (take (length xs - 1) xs)) l.now full) ∙ ap without_empty_end (sym e))

pub empty_end : (xs ys rest : List (Bor (List ℕ))) (l : Bor (List ℕ)) (n : ℕ) → xs ≡ ys → 0 < length xs → l ≡ get_or xs (length xs - 1) l → length l.now ≡ 0 → length xs ≡ n → rest ≡ take (n - 1) ys → without_empty_end (map (λ p. p.now) rest) ≡ without_empty_end (map (λ p. p.now) ys)
empty_end xs ys rest l n same some at empty len popped =
    let e = last_of xs l some at in
    let front : rest ≡ take (length xs - 1) xs = popped ∙ ap (λ (k : ℕ). take (k - 1) ys) (sym len) ∙ ap (λ (zs : List (Bor (List ℕ))). take (length xs - 1) zs) (sym same) in
    ap (λ (zs : List (Bor (List ℕ))). without_empty_end (map (λ p. p.now) zs)) front
    ∙ sym (without_empty_last (map (λ p. p.now) (take (length xs - 1) xs)) l.now empty) ∙ ap without_empty_end (sym e)
    ∙ ap (λ (zs : List (Bor (List ℕ))). without_empty_end (map (λ p. p.now) zs)) same
