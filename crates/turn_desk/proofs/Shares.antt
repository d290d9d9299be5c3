-- The numbers that a seat answers for, each with its entries, and runs of numbers.
use Rattle.std.proofs.Common.{◌≡◌, ◌≢◌, ◌⊎◌, ℕ, zero, suc, ◌+◌, ◌-◌, ◌<◌, ◌≤◌, false, List, [], ◌∷◌, ◌++◌, map, length, eqb, ltb, refl, sym, ap, ◌∙◌, subst, inl, inr, ⊎_elim, arith, length-append}
use mathlib.Core.Logic.{dite}
use mathlib.Core.Option.{some, some-injective, some-ne-none}
use mathlib.Core.List.{IsPrefix, map-append}
use native.Mathlib.Decide.{ℕ_discrete, dec_le}
use Rattle.std.proofs.lemmas.Bool.Decides.{nat_tests}
use lib.ListN.{get_elem?}
use Rattle.std.specs.List.{All}
use Rattle.std.proofs.lemmas.List.Elements.{filter-append}
use Rattle.std.specs.List.{range_with_len}
use Rattle.turn_desk.specs.declared.view.Known.{Known}
use Rattle.turn_desk.specs.Counts.{total, bit, times, Every}
use Rattle.turn_desk.specs.Entries.{entries_of}
use Rattle.turn_desk.specs.Views.{IsSpare, first_of, others, numbers, shares, first_view, joined, AreApart, numbers_of, without_first}
use Rattle.turn_desk.proofs.Totals.{bit_same, bit_other, times-append}

module _ {A : Type 0} (f : A → ℕ) where
  pub total_none : (xs : List A) → ((j : ℕ) (a : A) → get_elem? xs j ≡ some a → f a ≡ 0) → total f xs ≡ 0
  total_none [] all = refl
  total_none (x ∷ xs) all = let here = all 0 x refl in let more = total_none xs (λ j. all (suc j)) in omega arith

  -- where all other parts are nothing, one part is the whole
  pub total_alone : (xs : List A) (i : ℕ) (a : A) → get_elem? xs i ≡ some a → ((j : ℕ) (b : A) → j ≢ i → get_elem? xs j ≡ some b → f b ≡ 0) → total f xs ≡ f a
  total_alone [] i a e all = absurd (some-ne-none a (sym e))
  total_alone (x ∷ xs) zero a e all = let same : f x ≡ f a = ap f (some-injective x a e) in let more = total_none xs (λ j b h. all (suc j) b (λ s. omega (arith, s)) h) in omega arith
  total_alone (x ∷ xs) (suc i) a e all = let here = all 0 x (λ s. omega (arith, s)) refl in let more = total_alone xs i a e (λ j b ne h. all (suc j) b (λ s. ne (omega (arith, s))) h) in omega arith

module _ {A : Type 0} (P : A → Type 0) where
  pub every_append : (xs ys : List A) → Every P xs → Every P ys → Every P (xs ++ ys)
  every_append [] ys h k = k
  every_append (x ∷ xs) ys h k = (h.0, every_append xs ys h.1 k)

  pub every_front : (xs ys : List A) → Every P (xs ++ ys) → Every P xs
  every_front [] ys h = tt
  every_front (x ∷ xs) ys h = (h.0, every_front xs ys h.1)

  pub every_back : (xs ys : List A) → Every P (xs ++ ys) → Every P ys
  every_back [] ys h = h
  every_back (x ∷ xs) ys h = every_back xs ys h.1

  pub all_from_every : (xs : List A) → Every P xs → All P xs
  all_from_every [] h k d lt = absurd (omega arith)
  all_from_every (x ∷ xs) h zero d lt = h.0
  all_from_every (x ∷ xs) h (suc k) d lt = all_from_every xs h.1 k d (omega arith)

module _ {E : Type 0} where
  -- a number that none of these has
  pub times_none : (n : ℕ) (ps : List (ℕ × List E)) → All (λ p. p.0 ≢ n) ps → times n (numbers ps) ≡ 0
  times_none n [] none_of = refl
  times_none n (p ∷ ps) none_of = omega (arith, bit_other p.0 n (none_of 0 p (omega arith)), times_none n ps (λ k e lt. none_of (suc k) e (omega arith)))

  abbrev pub blank : ℕ → ℕ × List E
  blank n = (n, [])

  pub times_length : (n : ℕ) (ps : List (ℕ × List E)) → times n (numbers ps) ≤ length ps
  times_length n [] = omega arith
  times_length n (p ∷ ps) = let more = times_length n ps in dite (ℕ_discrete p.0 n) (λ e. omega (arith, bit_same p.0 n e)) (λ ne. omega (arith, bit_other p.0 n ne))

  pub times_parts : (n : ℕ) (ps qs : List (ℕ × List E)) → times n (numbers (ps ++ qs)) ≡ times n (numbers ps) + times n (numbers qs)
  times_parts n ps qs = ap (times n) (map-append (λ (p : ℕ × List E). p.0) ps qs) ∙ times-append n (numbers ps) (numbers qs)

  pub blanks-append : (ms ns : List ℕ) → map blank (ms ++ ns) ≡ map blank ms ++ map blank ns
  blanks-append ms ns = map-append blank ms ns

pub length_blanks : (E : Type 0) (ns : List ℕ) → length (map (blank {E = E}) ns) ≡ length ns
length_blanks E [] = refl
length_blanks E (n ∷ ns) = ap suc (length_blanks E ns)

pub numbers_blanks : (E : Type 0) (ns : List ℕ) → numbers (map (blank {E = E}) ns) ≡ ns
numbers_blanks E [] = refl
numbers_blanks E (n ∷ ns) = ap (λ l. n ∷ l) (numbers_blanks E ns)

module _ {E B : Type 0} where
  pub length_shares : (k : Known E B) → length (shares k) ≡ 1 + length k.ended + length k.spare
  length_shares k = omega (arith, length-append k.ended (map blank k.spare), length_blanks E k.spare)

  pub times_shares : (n : ℕ) (k : Known E B) → times n (numbers (shares k)) ≡ bit (eqb k.number n) + times n (numbers k.ended) + times n k.spare
  times_shares n k = omega (arith, times_parts n k.ended (map blank k.spare), ap (times n) (numbers_blanks E k.spare))

  pub times_held : (n : ℕ) (k : Known E B) → times n (numbers_of k) ≡ times n (numbers (shares k))
  times_held n k = omega (arith, times_shares n k, times-append n (numbers k.ended) k.spare)

  pub length_joined : (k l : Known E B) → length (shares (joined k l)) ≡ length (shares k) + length (shares l)
  length_joined k l = omega (arith, length_shares (joined k l), length_shares k, length_shares l, length-append k.ended ((l.number, l.mine) ∷ l.ended), length-append k.spare l.spare)

  pub times_joined : (n : ℕ) (k l : Known E B) → times n (numbers (shares (joined k l))) ≡ times n (numbers (shares k)) + times n (numbers (shares l))
  times_joined n k l = omega (arith, times_shares n (joined k l), times_shares n k, times_shares n l, times_parts n k.ended ((l.number, l.mine) ∷ l.ended), times-append n k.spare l.spare)

pub ne_ltb : (a b : ℕ) → a < b → ltb a b ≡ false → ⊥
ne_ltb a b lt e = grind (arith, nat_tests)

pub last_place : (a n : ℕ) → a + 1 + n ≡ a + suc n
last_place a n = omega arith

-- the last of a run of numbers stands in it
pub last_in : (a n : ℕ) → 1 ≤ times (a + n) (range_with_len a (suc n))
last_in a zero = omega (arith, bit_same a (a + 0) (omega arith))
last_in a (suc n) = let more : 1 ≤ times (a + suc n) (range_with_len (a + 1) (suc n)) = subst (λ k. 1 ≤ times k (range_with_len (a + 1) (suc n))) (last_place a n) (last_in (a + 1) n) in omega arith

pub spare_rest : (seats n : ℕ) (ns : List ℕ) → suc (length ns) ≤ seats → IsSpare seats (n ∷ ns) → IsSpare seats ns × (n ≡ seats - suc (length ns))
spare_rest seats n ns fits is = (ap others is ∙ ap (λ a. range_with_len a (length ns)) (omega arith), ap first_of is)

-- a run of numbers has each of them once
pub run_lacks : (n a len : ℕ) → (n < a) ⊎ (a + len ≤ n) → times n (range_with_len a len) ≡ 0
run_lacks n a zero out = refl
run_lacks n a (suc len) out = let ne : a ≢ n = λ e. ⊎_elim (λ (lo : n < a). omega arith) (λ (hi : a + suc len ≤ n). omega arith) out in
    omega (arith, bit_other a n ne, run_lacks n (a + 1) len (⊎_elim (λ (lo : n < a). inl (omega arith)) (λ (hi : a + suc len ≤ n). inr (omega arith)) out))

pub run_has : (n a len : ℕ) → a ≤ n → n < a + len → times n (range_with_len a len) ≡ 1
run_has n a zero lo hi = absurd (omega arith)
run_has n a (suc len) lo hi = dite (ℕ_discrete a n)
    (λ e. omega (arith, bit_same a n e, run_lacks n (a + 1) len (inl (omega arith))))
    (λ ne. omega (arith, bit_other a n ne, run_has n (a + 1) len (omega arith) (omega arith)))

module _ {E : Type 0} (seat_of : E → ℕ) where
  pub every_blank : (ns : List ℕ) → Every (λ p. p.1 ≡ entries_of seat_of p.0 []) (map blank ns)
  every_blank [] = tt
  every_blank (n ∷ ns) = (refl, every_blank ns)

  -- a seat with no entry has none in a beginning
  pub no_earlier : (n : ℕ) (xs log : List E) → IsPrefix xs log → [] ≡ entries_of seat_of n log → [] ≡ entries_of seat_of n xs
  no_earlier n xs log pre none_of = front (entries_of seat_of n xs) (entries_of seat_of n pre.0) (none_of ∙ (ap (entries_of seat_of n) (sym pre.1) ∙ filter-append (λ (e : E). eqb (seat_of e) n) xs pre.0))
    where
      front : (xs ys : List E) → [] ≡ xs ++ ys → [] ≡ xs
      front [] ys e = refl
      front (x ∷ xs) ys e = absurd (cc (e))

  -- a number that stands among the spare ones has no entry
  pub spare_none : (n : ℕ) (log : List E) (ns : List ℕ) → 1 ≤ times n ns → Every (λ p. p.1 ≡ entries_of seat_of p.0 log) (map blank ns) → [] ≡ entries_of seat_of n log
  spare_none n log [] has h = absurd (omega arith)
  spare_none n log (m ∷ ns) has h = dite (ℕ_discrete m n)
      (λ e. h.0 ∙ ap (λ k. entries_of seat_of k log) e)
      (λ ne. spare_none n log ns (omega (arith, bit_other m n ne, has)) h.1)

-- the numbers of the first seat
pub first_apart : (E B : Type 0) (seats : ℕ) (base : B) → 1 ≤ seats → AreApart seats (numbers_of (first_view {E = E} seats base).known)
first_apart E B seats base some_of n = dite (ℕ_discrete 0 n)
    (λ e. (omega (arith, bit_same 0 n e, run_lacks n 1 (seats - 1) (inl (omega arith))), λ le. absurd (omega arith)))
    (λ ne. dite (dec_le seats n)
    (λ le. let none_of = run_lacks n 1 (seats - 1) (inr (omega arith)) in (omega (arith, bit_other 0 n ne, none_of), λ _. omega (arith, bit_other 0 n ne, none_of)))
    (λ lt. (omega (arith, bit_other 0 n ne, run_has n 1 (seats - 1) (omega arith) (omega arith)), λ le. absurd (omega arith))))

-- the numbers that are left once the first spare one is given away
pub fewer_apart : {E B : Type 0} (k : Known E B) → AreApart k.seats (numbers_of k) → AreApart k.seats (numbers_of (without_first k))
fewer_apart k h n = let fewer = times_others n k.spare in
    let before = times-append n (numbers k.ended) k.spare in
    let after = times-append n (numbers k.ended) (others k.spare) in
    (omega (arith, (h n).0, before, after, fewer), λ le. omega (arith, (h n).1 le, before, after, fewer))
  where
    times_others : (n : ℕ) (ns : List ℕ) → times n (others ns) ≤ times n ns
    times_others n [] = omega arith
    times_others n (m ∷ ns) = omega arith

pub length_others : (ns : List ℕ) → length ns - 1 ≡ length (others ns)
length_others [] = omega arith
length_others (n ∷ ns) = omega arith
