-- Counts of what has failed.
use Rattle.std.proofs.Common.{◌≡◌, ℕ, ◌+◌, ◌≤◌, Bool, true, false, ◌||◌, List, [], ◌∷◌, ◌++◌, cond, count_by, refl, sym, ◌∙◌, arith}
use Rattle.std.specs.List.{list_any}
use Rattle.std.proofs.lemmas.Bool.{false≢true}
use Rattle.std.proofs.lemmas.List.Sums.{sum_by-append}
use Rattle.gw_base.specs.Feed.{raised}
use Rattle.outside_core.specs.Lending.{RoseWhere}

-- a count that stays
pub stands : (before now : ℕ) → now ≡ before → RoseWhere false before now
stands before now same = record { later = omega (arith, same); rose = λ e. absurd (false≢true e); stood = λ _. same }

-- a count of calls that failed is raised by one, beside two counts that stay
pub rises : (calls now a b : ℕ) → now ≡ raised calls → calls ≤ now → RoseWhere true (calls + a + b) (now + a + b)
rises calls now a b is later = record {
  later = omega (arith, later);
  rose = λ _. rw is (grind arith);
  stood = λ e. absurd (false≢true (sym e));
}

-- a list is counted part by part
pub counts_both : {A : Type 0} (p : A → Bool) (xs ys : List A) → count_by p (xs ++ ys) ≡ count_by p xs + count_by p ys
counts_both p xs ys = sum_by-append (λ x. cond (p x) 1 0) xs ys

-- and item by item
pub counts_first : {A : Type 0} (p : A → Bool) (x : A) (xs : List A) → count_by p (x ∷ xs) ≡ cond (p x) 1 0 + count_by p xs
counts_first p x xs =
    let both : count_by p (x ∷ xs) ≡ count_by p (x ∷ []) + count_by p xs = counts_both p (x ∷ []) xs in
    let one : count_by p (x ∷ []) ≡ cond (p x) 1 0 = omega arith in
    rw (both, one) refl

none_step : (b : Bool) (more : Bool) (rest : ℕ) → (more ≡ false → rest ≡ 0) → (b || more) ≡ false → cond b 1 0 + rest ≡ 0
none_step true more rest is e = absurd (false≢true (sym e))
none_step false more rest is e = omega (arith, is e)

-- none of them passes
pub counts_none : {A : Type 0} (p : A → Bool) (xs : List A) → list_any p xs ≡ false → count_by p xs ≡ 0
counts_none p [] e = refl
counts_none p (x ∷ xs) e = counts_first p x xs ∙ none_step (p x) (list_any p xs) (count_by p xs) (counts_none p xs) e

some_step : (b : Bool) (more : Bool) (rest : ℕ) → (more ≡ true → 1 ≤ rest) → (b || more) ≡ true → 1 ≤ cond b 1 0 + rest
some_step true more rest is e = omega arith
some_step false more rest is e = omega (arith, is e)

-- one of them passes
pub counts_some : {A : Type 0} (p : A → Bool) (xs : List A) → list_any p xs ≡ true → 1 ≤ count_by p xs
counts_some p [] e = absurd (false≢true e)
counts_some p (x ∷ xs) e = rw (counts_first p x xs) (some_step (p x) (list_any p xs) (count_by p xs) (counts_some p xs) e)

by_any : {A : Type 0} (p : A → Bool) (xs : List A) (any : Bool) → list_any p xs ≡ any → (before : ℕ) → RoseWhere any before (before + count_by p xs)
by_any p xs true is before =
    let some = counts_some p xs is in
    record { later = omega arith; rose = λ _. grind (arith, some); stood = λ e. absurd (false≢true (sym e)) }
by_any p xs false is before =
    let none = counts_none p xs is in
    record { later = omega arith; rose = λ e. absurd (false≢true e); stood = λ _. omega (arith, none) }

-- a count rose where one of those that are counted anew passes
pub rose_by_any : {A : Type 0} (p : A → Bool) (xs : List A) (before : ℕ) → RoseWhere (list_any p xs) before (before + count_by p xs)
rose_by_any p xs before = by_any p xs (list_any p xs) refl before
