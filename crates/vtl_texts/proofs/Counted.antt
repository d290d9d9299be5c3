-- Places and lengths in characters.
use Rattle.std.proofs.Common.{◌≡◌, ℕ, ◌+◌, ◌-◌, ◌<◌, ◌≤◌, ℤ, pos, negsuc, List, [], ◌∷◌, ◌++◌, length, take, drop, Option, Some, None, MatchOption, Bor, ◌⊎◌, inl, inr, refl, sym, ap, ◌∙◌, subst, arith, le-leb, length-append}
use Rattle.std.specs.Option.{option_map, option_copied}
use Rattle.std.specs.Str.{chars, IsUtf8, IsCharBoundary, encode_utf8_all}
use Rattle.std.proofs.lemmas.Bool.{lt-leb}
use Rattle.std.proofs.lemmas.List.{take-append-drop, take-append-le, take_all, length-drop, drop_more}
use Rattle.std.proofs.lemmas.Option.{none-some, same_Some}
use Rattle.std.proofs.lemmas.Str.{encodes-chars, encodes-append, IsCharBoundary-at_seam}
use Rattle.vtl_texts.specs.Characters.{text_length, place_of, substring, substring_from, index_of}
use Rattle.vtl_texts.specs.Places.{cut}

-- what is behind n + 1 of them
pub drop_next : (xs : List ℕ) (n x : ℕ) (rest : List ℕ) → drop n xs ≡ x ∷ rest → (drop (n + 1) xs ≡ rest) × (n + 1 ≤ length xs)
drop_next xs n x rest e =
    let l : n < length xs = omega (arith, length-drop n xs, ap length e) in
    let more = drop_more xs n 0 l in
    (cc (more, e), omega arith)

-- nothing is left behind all of them
pub drop_all : (xs : List ℕ) (n : ℕ) → drop n xs ≡ [] → length xs ≤ n
drop_all xs n e = omega (arith, length-drop n xs, ap length e)

pub from_negative : (t : List ℕ) (i : ℤ) → None ≡ place_of i → None ≡ substring_from t i
unfolding substring_from
from_negative t (pos n) e = absurd (none-some n e)
from_negative t (negsuc n) e = refl

abbrev pub IsPast : List ℕ → ℕ → Option (Bor (List ℕ)) → Type 0
IsPast t n r = MatchOption r (length (chars t) < n) (λ rest. (n ≤ length (chars t)) × (chars rest.now ≡ drop n (chars t)) × IsUtf8 rest.now)

from_past : (t : List ℕ) (n : ℕ) (r : Option (Bor (List ℕ))) → IsPast t n r → option_copied r ≡ substring_from t (pos n)
unfolding substring_from text_length
from_past t n None h = rw (lt-leb n (length (chars t)) h)
from_past t n (Some rest) h = rw (le-leb n (length (chars t)) h.0) (ap (λ (bs : List ℕ). Some bs) (sym (encodes-chars rest.now h.2) ∙ ap encode_utf8_all h.1))

pub from_place : (t : List ℕ) (i : ℤ) (n : ℕ) (r : Option (Bor (List ℕ))) → Some n ≡ place_of i → IsPast t n r → option_copied r ≡ substring_from t i
from_place t (pos m) n r e h = subst (λ (k : ℕ). option_copied r ≡ substring_from t (pos k)) (same_Some n m e) (from_past t n r h)
from_place t (negsuc m) n r e h = absurd (none-some n (sym e))

pub between_negative : (t : List ℕ) (i j : ℤ) → (None ≡ place_of i) ⊎ (None ≡ place_of j) → None ≡ substring t i j
unfolding substring
between_negative t (negsuc n) j e = refl
between_negative t (pos m) (negsuc n) e = refl
between_negative t (pos m) (pos n) (inl e) = absurd (none-some m e)
between_negative t (pos m) (pos n) (inr e) = absurd (none-some n e)

pub between_backwards : (t : List ℕ) (i j : ℤ) (m n : ℕ) → Some m ≡ place_of i → Some n ≡ place_of j → n < m → None ≡ substring t i j
unfolding substring
between_backwards t (negsuc i) j m n e f l = refl
between_backwards t (pos i) (negsuc j) m n e f l = refl
between_backwards t (pos i) (pos j) m n e f l =
    let k : j < i = omega (arith, same_Some m i e, same_Some n j f) in
    rw (lt-leb i j k)

pub between_places : (t : List ℕ) (i j : ℤ) (m n : ℕ) (r : Option (Bor (List ℕ))) → Some m ≡ place_of i → Some n ≡ place_of j → option_copied r ≡ substring t (pos m) (pos n) → option_copied r ≡ substring t i j
between_places t (negsuc i) j m n r e f h = absurd (none-some m (sym e))
between_places t (pos i) (negsuc j) m n r e f h = absurd (none-some n (sym f))
between_places t (pos i) (pos j) m n r e f h = rw (← same_Some m i e, ← same_Some n j f) h

-- fewer than j characters
pub between_past : (t : List ℕ) (i j : ℕ) → i ≤ j → length (chars t) < j → None ≡ substring t (pos i) (pos j)
unfolding substring text_length
between_past t i j l m = rw (le-leb i j l, lt-leb j (length (chars t)) m)

-- a text before what is behind its first n characters
pub seam : (s e : List ℕ) (n : ℕ) → IsUtf8 s → IsUtf8 e → chars e ≡ drop n (chars s) → s ≡ encode_utf8_all (take n (chars s)) ++ e
seam s e n us ue h =
    sym (encodes-chars s us) ∙ ap encode_utf8_all (sym (take-append-drop n (chars s))) ∙ encodes-append (take n (chars s)) (drop n (chars s))
    ∙ ap (λ (xs : List ℕ). encode_utf8_all (take n (chars s)) ++ xs) (ap encode_utf8_all (sym h) ∙ encodes-chars e ue)

pub seam_boundary : (s e : List ℕ) (n : ℕ) → IsUtf8 s → IsUtf8 e → chars e ≡ drop n (chars s) → IsCharBoundary s (length s - length e)
seam_boundary s e n us ue h =
    let at = seam s e n us ue h in
    let l : length s - length e ≡ length (encode_utf8_all (take n (chars s))) = omega (arith, ap length at, length-append (encode_utf8_all (take n (chars s))) e) in
    subst (λ (k : ℕ). IsCharBoundary s k) (sym l) (IsCharBoundary-at_seam s (encode_utf8_all (take n (chars s))) e at ue)

pub seam_fits : (s e : List ℕ) (n : ℕ) → IsUtf8 s → IsUtf8 e → chars e ≡ drop n (chars s) → length e ≤ length s
seam_fits s e n us ue h = omega (arith, ap length (seam s e n us ue h), length-append (encode_utf8_all (take n (chars s))) e)

take_front : (xs ys : List ℕ) → take (length xs) (xs ++ ys) ≡ xs
take_front xs ys = take-append-le (length xs) xs ys (omega arith) ∙ take_all (length xs) xs (omega arith)

seam_taken : (s e : List ℕ) (n : ℕ) → IsUtf8 s → IsUtf8 e → chars e ≡ drop n (chars s) → take (length s - length e) s ≡ encode_utf8_all (take n (chars s))
seam_taken s e n us ue h =
    let at = seam s e n us ue h in
    let l : length s - length e ≡ length (encode_utf8_all (take n (chars s))) = omega (arith, ap length at, length-append (encode_utf8_all (take n (chars s))) e) in
    ap (λ (k : ℕ). take k s) l ∙ ap (λ (xs : List ℕ). take (length (encode_utf8_all (take n (chars s)))) xs) at ∙ take_front (encode_utf8_all (take n (chars s))) e

pub between_taken : (t s e r : List ℕ) (i j : ℕ) → i ≤ j → i ≤ length (chars t) → chars s ≡ drop i (chars t) → IsUtf8 s → j - i ≤ length (chars s) → chars e ≡ drop (j - i) (chars s) → IsUtf8 e → r ≡ take (length s - length e) s → Some r ≡ substring t (pos i) (pos j)
unfolding substring text_length
between_taken t s e r i j l m hs us k he ue h =
    let fits : j ≤ length (chars t) = omega (arith, ap length hs, length-drop i (chars t)) in
    rw (le-leb i j l, le-leb j (length (chars t)) fits) (ap (λ (bs : List ℕ). Some bs) (h ∙ seam_taken s e (j - i) us ue he ∙ ap (λ (xs : List ℕ). encode_utf8_all (take (j - i) xs)) hs))

-- where a text stands first
pub index_at : (t s a b : List ℕ) (n : ℕ) → Some (a, b) ≡ cut t s → n ≡ text_length a → Some n ≡ index_of t s
unfolding index_of
index_at t s a b n e h = ap (λ (k : ℕ). Some k) h ∙ ap (option_map (λ (c : List ℕ × List ℕ). text_length c.0)) e

pub index_none : (t s : List ℕ) → None ≡ cut t s → None ≡ index_of t s
unfolding index_of
index_none t s e = ap (option_map (λ (c : List ℕ × List ℕ). text_length c.0)) e
