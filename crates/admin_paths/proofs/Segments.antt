-- Segments without a slash.
use Rattle.std.proofs.Common.{◌≡◌, ℕ, suc, ◌+◌, ◌-◌, ◌<◌, ◌==◌, Bool, true, false, cond, not, ◌&&◌, ltb, lt-ltb, ltb-true, length, length-append, List, [], ◌∷◌, ◌++◌, bytes_eq, nat_eq, All, refl, ap, ◌∙◌, arith}
use Rattle.std.proofs.lemmas.Bool.Decides.{nat_tests}
use Rattle.std.proofs.lemmas.List.Elements.{All-head, All-tail}
use Rattle.std.proofs.Math.Seq.{drop-append_seam}
use Rattle.std.proofs.lemmas.Bool.{and_parts}
use Rattle.std.specs.List.{list_all, slice_split, onto_first, ends_with}
use Rattle.percent_encoding.proofs.PercentLemmas.{IsByte}
use Rattle.matchit.specs.Level.{IsText}
use Rattle.matchit.specs.Seek.{segment, has_slash, cuts}

-- bytes other than a slash
abbrev pub Plain : List ℕ → Type 0
Plain [] = Unit {0}
Plain (b ∷ bs) = (b < 256) × ((b == 47) ≡ false) × Plain bs

-- a test of it
abbrev is_plain : ℕ → Bool
is_plain b = ltb b 256 && not (b == 47)

pub plain_by : (bytes : List ℕ) → list_all is_plain bytes ≡ true → Plain bytes
plain_by [] h = tt
plain_by (b ∷ bytes) h =
    let both = and_parts (is_plain b) (list_all is_plain bytes) h in
    let parts = and_parts (ltb b 256) (not (b == 47)) both.0 in
    (ltb-true b 256 parts.0, by (b == 47) parts.1, plain_by bytes both.1)
  where
    by : (v : Bool) → not v ≡ true → v ≡ false
    by true e = absurd cc
    by false e = refl

pub text_by : (bytes : List ℕ) → Plain bytes → IsText bytes
text_by [] h = tt
text_by (b ∷ bytes) h = (h.0, text_by bytes h.2)

abbrev pub AllPlain : List (List ℕ) → Type 0
AllPlain [] = Unit {0}
AllPlain (s ∷ segments) = Plain s × AllPlain segments

plain_onto : (b : ℕ) (segments : List (List ℕ)) → b < 256 → (b == 47) ≡ false → AllPlain segments → AllPlain (onto_first b segments)
plain_onto b [] small other h = ((small, other, tt), tt)
plain_onto b (s ∷ segments) small other h = ((small, other, h.0), h.1)

-- the segments of bytes are such
pub split_plain : (bytes : List ℕ) → All IsByte bytes → AllPlain (slice_split (λ b. b == 47) bytes)
split_plain [] h = (tt, tt)
split_plain (b ∷ bytes) h = by (b == 47) refl (split_plain bytes (All-tail IsByte b bytes h))
  where
    by : (v : Bool) → (b == 47) ≡ v → AllPlain (slice_split (λ b. b == 47) bytes)
        → AllPlain (cond v ([] ∷ slice_split (λ b. b == 47) bytes) (onto_first b (slice_split (λ b. b == 47) bytes)))
    by true e rest = (tt, rest)
    by false e rest = plain_onto b (slice_split (λ b. b == 47) bytes) (All-head IsByte b bytes h) e rest

-- a text with a slash is none without
pub no_slash_in : (s r w : List ℕ) → Plain w → bytes_eq (s ++ 47 ∷ r) w ≡ false
no_slash_in [] r [] h = refl
no_slash_in [] r (x ∷ w) h =
    let e : nat_eq 47 x ≡ false = (let k : (x == 47) ≡ false = h.1 in grind (arith, nat_tests)) in
    rw e refl
no_slash_in (y ∷ s) r [] h = refl
no_slash_in (y ∷ s) r (x ∷ w) h = by (nat_eq y x) (no_slash_in s r w h.2)
  where
    by : (v : Bool) → bytes_eq (s ++ 47 ∷ r) w ≡ false → (v && bytes_eq (s ++ 47 ∷ r) w) ≡ false
    by true ih = ih
    by false ih = refl

-- the first segment of a text
pub segment_until : (s r : List ℕ) → Plain s → segment (s ++ 47 ∷ r) ≡ s ++ 47 ∷ []
segment_until [] r h = refl
segment_until (b ∷ s) r h = rw (h.1) (ap (λ t. b ∷ t) (segment_until s r h.2))

pub segment_whole : (s : List ℕ) → Plain s → segment s ≡ s
segment_whole [] h = refl
segment_whole (b ∷ s) h = rw (h.1) (ap (λ t. b ∷ t) (segment_whole s h.2))

pub no_slash : (s : List ℕ) → Plain s → has_slash s ≡ false
no_slash [] h = refl
no_slash (b ∷ s) h = rw (h.1) (no_slash s h.2)

pub has_one : (s r : List ℕ) → has_slash (s ++ 47 ∷ r) ≡ true
has_one [] r = refl
has_one (b ∷ s) r = by (b == 47) (has_one s r)
  where
    by : (v : Bool) → has_slash (s ++ 47 ∷ r) ≡ true → cond v true (has_slash (s ++ 47 ∷ r)) ≡ true
    by true ih = refl
    by false ih = ih

-- a segment that has a byte in front of its slash
pub is_cut : (b : ℕ) (s : List ℕ) → cuts (b ∷ s ++ 47 ∷ []) (47 ∷ []) ≡ true
is_cut b s =
    let n : length (s ++ 47 ∷ []) ≡ length s + 1 = length-append s (47 ∷ []) in
    let long : ltb 1 (suc (length (s ++ 47 ∷ []))) ≡ true = lt-ltb 1 _ (omega arith) in
    let at : suc (length (s ++ 47 ∷ [])) - 1 ≡ length (b ∷ s) = omega arith in
    rw (long, at, drop-append_seam (b ∷ s) (47 ∷ [])) refl

ends_later : (b x : ℕ) (s : List ℕ) → ends_with nat_eq (b ∷ x ∷ s) (47 ∷ []) ≡ ends_with nat_eq (x ∷ s) (47 ∷ [])
ends_later b x s =
    let at : suc (suc (length s)) - 1 ≡ suc (suc (length s) - 1) = omega arith in
    rw at refl

no_end : (s : List ℕ) → Plain s → ends_with nat_eq s (47 ∷ []) ≡ false
no_end [] h = refl
no_end (b ∷ []) h =
    let e : nat_eq 47 b ≡ false = (let k : (b == 47) ≡ false = h.1 in grind (arith, nat_tests)) in
    rw e refl
no_end (b ∷ x ∷ s) h = ends_later b x s ∙ no_end (x ∷ s) h.2

-- and a segment without one
pub is_not_cut : (s : List ℕ) → Plain s → cuts s (47 ∷ []) ≡ false
is_not_cut s h = by (ltb 1 (length s))
  where
    by : (v : Bool) → (v && ends_with nat_eq s (47 ∷ [])) ≡ false
    by true = no_end s h
    by false = refl
