-- Sums over the views of the seats.
use Rattle.std.proofs.Common.{◌≡◌, ◌≢◌, ℕ, zero, suc, ◌+◌, ◌≤◌, List, [], ◌∷◌, ◌++◌, set, refl, ap, sym, arith, eqb, eq-eqb, ne_eqb}
use mathlib.Core.Option.{some, some-injective, some-ne-none}
use lib.ListN.{get_elem?}
use Rattle.turn_desk.specs.Counts.{total, bit, times}

module _ {A : Type 0} (f : A → ℕ) where
  pub total-set : (xs : List A) (i : ℕ) (a b : A) → get_elem? xs i ≡ some a → total f (set xs i b) + f a ≡ total f xs + f b
  total-set [] i a b e = absurd (some-ne-none a (sym e))
  total-set (x ∷ xs) zero a b e = let same : f x ≡ f a = ap f (some-injective x a e) in omega arith
  total-set (x ∷ xs) (suc i) a b e = let more = total-set xs i a b e in omega arith

  pub total-append : (xs ys : List A) → total f (xs ++ ys) ≡ total f xs + total f ys
  total-append [] ys = omega arith
  total-append (x ∷ xs) ys = let more = total-append xs ys in omega arith

  -- no part is above the whole
  pub total_part : (xs : List A) (i : ℕ) (a : A) → get_elem? xs i ≡ some a → f a ≤ total f xs
  total_part [] i a e = absurd (some-ne-none a (sym e))
  total_part (x ∷ xs) zero a e = let same : f x ≡ f a = ap f (some-injective x a e) in omega arith
  total_part (x ∷ xs) (suc i) a e = let more = total_part xs i a e in omega arith

  -- nor are two
  pub total_parts : (xs : List A) (i j : ℕ) (a b : A) → i ≢ j → get_elem? xs i ≡ some a → get_elem? xs j ≡ some b → f a + f b ≤ total f xs
  total_parts [] i j a b ne e h = absurd (some-ne-none a (sym e))
  total_parts (x ∷ xs) zero zero a b ne e h = absurd (ne refl)
  total_parts (x ∷ xs) zero (suc j) a b ne e h = let same : f x ≡ f a = ap f (some-injective x a e) in let more = total_part xs j b h in omega arith
  total_parts (x ∷ xs) (suc i) zero a b ne e h = let same : f x ≡ f b = ap f (some-injective x b h) in let more = total_part xs i a e in omega arith
  total_parts (x ∷ xs) (suc i) (suc j) a b ne e h = let more = total_parts xs i j a b (λ s. ne (ap suc s)) e h in omega arith

  pub total-same : (xs : List A) (i : ℕ) (a b : A) → get_elem? xs i ≡ some a → f b ≡ f a → total f (set xs i b) ≡ total f xs
  total-same xs i a b e same = let more = total-set xs i a b e in omega arith

module _ {A : Type 0} (f g : A → ℕ) where
  pub total_below : (xs : List A) → ((j : ℕ) (a : A) → get_elem? xs j ≡ some a → f a ≤ g a) → total f xs ≤ total g xs
  total_below [] below = omega arith
  total_below (x ∷ xs) below = let here = below 0 x refl in let more = total_below xs (λ j. below (suc j)) in omega arith

  -- and one part is less
  pub total_less : (xs : List A) (i : ℕ) (a : A) → ((j : ℕ) (a : A) → get_elem? xs j ≡ some a → f a ≤ g a) → get_elem? xs i ≡ some a → f a + 1 ≤ g a → total f xs + 1 ≤ total g xs
  total_less [] i a below e less = absurd (some-ne-none a (sym e))
  total_less (x ∷ xs) zero a below e less =
      let same : f x ≡ f a = ap f (some-injective x a e) in let same' : g x ≡ g a = ap g (some-injective x a e) in let more = total_below xs (λ j. below (suc j)) in omega arith
  total_less (x ∷ xs) (suc i) a below e less = let here = below 0 x refl in let more = total_less xs i a (λ j. below (suc j)) e less in omega arith

pub bit_same : (a b : ℕ) → a ≡ b → bit (eqb a b) ≡ 1
bit_same a b e = ap bit (eq-eqb a b e)

pub bit_other : (a b : ℕ) → a ≢ b → bit (eqb a b) ≡ 0
bit_other a b ne = ap bit (ne_eqb a b ne)

pub times-append : (n : ℕ) (xs ys : List ℕ) → times n (xs ++ ys) ≡ times n xs + times n ys
times-append n xs ys = total-append (λ x. bit (eqb x n)) xs ys
