-- The numbers of a range: which of them stand there, and one after the other.
use Rattle.std.proofs.Common.{◌≡◌, ◌≢◌, ℕ, zero, suc, ℤ, pos, negsuc, ◌+ℤ◌, ◌-ℤ◌, ◌≤ℤ◌, ◌<ℤ◌, Bool, true, false, List, [], ◌∷◌, map, refl, sym, ap, zero-add, ◌∙◌, arith, ◌⊎◌, inl, inr}
use Rattle.std.specs.Prelude.{int_lt, int_le, if◌then◌else◌}
use Rattle.std.specs.Ordering.{int_eq}
use Rattle.std.proofs.lemmas.Int.{ints, by_lt_z}
use Rattle.std.proofs.lemmas.Bool.{cases_Bool, both_ways}
use Rattle.std.proofs.lemmas.Bool.Decides.{Decides-int_eq}
use Rattle.vtl_values.specs.Val.{null, whole}
use Rattle.vtl_values.specs.Operations.{are_equal, compared}
use Rattle.vtl_values.specs.Ranges.{counted, toward, distance, span}
use Rattle.vtl_methods.specs.Comparisons.{is_among, looked_through}

-- two whole numbers, and a whole number and null, are compared without a text
none_either : (b : Bool) (n : ℕ) → n ≡ 0 → (if b then 0 else n) ≡ 0
none_either true n e = refl
none_either false n e = e

pub no_texts : (n : ℤ) (xs : List ℤ) → looked_through (whole n) (map whole xs) ≡ 0
unfolding compared are_equal
no_texts n [] = refl
no_texts n (x ∷ xs) = zero-add (if int_eq x n then 0 else looked_through (whole n) (map whole xs)) ∙ none_either (int_eq x n) (looked_through (whole n) (map whole xs)) (no_texts n xs)

pub no_texts_null : (xs : List ℤ) → looked_through null (map whole xs) ≡ 0
unfolding compared are_equal
no_texts_null [] = refl
no_texts_null (x ∷ xs) = zero-add (looked_through null (map whole xs)) ∙ no_texts_null xs

pub not_null : (xs : List ℤ) → is_among null (map whole xs) ≡ false
unfolding are_equal
not_null [] = refl
not_null (x ∷ xs) = not_null xs

eq_cases : (x y : ℤ) → ((int_eq x y ≡ true) × (x ≡ y)) ⊎ ((int_eq x y ≡ false) × (x ≢ y))
eq_cases x y = elim (cases_Bool (int_eq x y)) [
  | inl t ↦ inl (t, (Decides-int_eq x y).0 t)
  | inr f ↦ inr (f, λ e. both_ways (int_eq x y) f ((Decides-int_eq x y).1 e))
]

pub above : (a n : ℤ) → a ≤ℤ n → a ≢ n → (a +ℤ pos 1) ≤ℤ n
above a n le ne = by_lt_z a n (λ lt. omega (arith, ints)) (λ ge. absurd (ne (omega (arith, ints))))

below : (a n : ℤ) → n ≤ℤ a → a ≢ n → n ≤ℤ (a +ℤ negsuc 0)
below a n le ne = by_lt_z n a (λ lt. omega (arith, ints)) (λ ge. absurd (ne (omega (arith, ints))))

-- counting up
up_found : (k : ℕ) (a n : ℤ) → a ≤ℤ n → n <ℤ (a +ℤ pos k) → is_among (whole n) (map whole (counted (pos 1) a k)) ≡ true
unfolding are_equal
up_found zero a n low high = absurd (omega (arith, ints))
up_found (suc k) a n low high = elim (eq_cases a n) [
  | inl w ↦ rw w.0
  | inr w ↦ rw w.0 (let next : (a +ℤ pos 1) ≤ℤ n = above a n low w.1 in up_found k (a +ℤ pos 1) n next (omega (arith, ints)))
]

up_below : (k : ℕ) (a n : ℤ) → n <ℤ a → is_among (whole n) (map whole (counted (pos 1) a k)) ≡ false
unfolding are_equal
up_below zero a n low = refl
up_below (suc k) a n low = elim (eq_cases a n) [
  | inl w ↦ absurd (let e : a ≡ n = w.1 in omega (arith, ints))
  | inr w ↦ rw w.0 (up_below k (a +ℤ pos 1) n (omega (arith, ints)))
]

up_above : (k : ℕ) (a n : ℤ) → (a +ℤ pos k) ≤ℤ n → is_among (whole n) (map whole (counted (pos 1) a k)) ≡ false
unfolding are_equal
up_above zero a n high = refl
up_above (suc k) a n high = elim (eq_cases a n) [
  | inl w ↦ absurd (let e : a ≡ n = w.1 in omega (arith, ints))
  | inr w ↦ rw w.0 (up_above k (a +ℤ pos 1) n (omega (arith, ints)))
]

-- counting down
down_found : (k : ℕ) (a n : ℤ) → n ≤ℤ a → (a -ℤ pos k) <ℤ n → is_among (whole n) (map whole (counted (negsuc 0) a k)) ≡ true
unfolding are_equal
down_found zero a n high low = absurd (omega (arith, ints))
down_found (suc k) a n high low = elim (eq_cases a n) [
  | inl w ↦ rw w.0
  | inr w ↦ rw w.0 (let next : n ≤ℤ (a +ℤ negsuc 0) = below a n high w.1 in down_found k (a +ℤ negsuc 0) n next (omega (arith, ints)))
]

down_above : (k : ℕ) (a n : ℤ) → a <ℤ n → is_among (whole n) (map whole (counted (negsuc 0) a k)) ≡ false
unfolding are_equal
down_above zero a n high = refl
down_above (suc k) a n high = elim (eq_cases a n) [
  | inl w ↦ absurd (let e : a ≡ n = w.1 in omega (arith, ints))
  | inr w ↦ rw w.0 (down_above k (a +ℤ negsuc 0) n (omega (arith, ints)))
]

down_below : (k : ℕ) (a n : ℤ) → n ≤ℤ (a -ℤ pos k) → is_among (whole n) (map whole (counted (negsuc 0) a k)) ≡ false
unfolding are_equal
down_below zero a n low = refl
down_below (suc k) a n low = elim (eq_cases a n) [
  | inl w ↦ absurd (let e : a ≡ n = w.1 in omega (arith, ints))
  | inr w ↦ rw w.0 (down_below k (a +ℤ negsuc 0) n (omega (arith, ints)))
]

-- how far it is to the last
distance_up : (a b : ℤ) → a ≤ℤ b → a +ℤ pos (distance a b) ≡ b
distance_up a b h = omega (arith, ints)

distance_down : (a b : ℤ) → b ≤ℤ a → a -ℤ pos (distance a b) ≡ b
distance_down a b h = omega (arith, ints)

le_of : (a b : ℤ) → int_le a b ≡ true → a ≤ℤ b
le_of a b h = grind (arith, ints)

gt_of : (a b : ℤ) → int_le a b ≡ false → b <ℤ a
gt_of a b h = grind (arith, ints)

pub lt_of : (a b : ℤ) → int_lt a b ≡ true → a <ℤ b
lt_of a b h = grind (arith, ints)

pub ge_of : (a b : ℤ) → int_lt a b ≡ false → b ≤ℤ a
ge_of a b h = grind (arith, ints)

of_le : (a b : ℤ) → a ≤ℤ b → int_le a b ≡ true
of_le a b h = grind (arith, ints)

of_gt : (a b : ℤ) → b <ℤ a → int_le a b ≡ false
of_gt a b h = grind (arith, ints)

of_ge : (a b : ℤ) → b ≤ℤ a → int_lt a b ≡ false
of_ge a b h = grind (arith, ints)

-- a range counts down, or up
one_by : (by x y : ℤ) → counted by x 1 ≡ counted y x 1
one_by by x y = refl

falling : (a b : ℤ) → b ≤ℤ a → span a b ≡ counted (negsuc 0) a (suc (distance a b))
unfolding span
falling a b h = elim (cases_Bool (int_lt b a)) [
  | inl t ↦ (let e : toward a b ≡ negsuc 0 = rw t in ap (λ (by : ℤ). counted by a (suc (distance a b))) e)
  | inr f ↦
      let back : a ≤ℤ b = ge_of b a f in
      let none : distance a b ≡ 0 = omega (arith, ints) in
      ap (λ (k : ℕ). counted (toward a b) a (suc k)) none ∙ ap (λ (k : ℕ). counted (negsuc 0) a (suc k)) (sym none)
]

rising : (a b : ℤ) → a ≤ℤ b → span a b ≡ counted (pos 1) a (suc (distance a b))
unfolding span
rising a b h =
    let e : toward a b ≡ pos 1 = rw (of_ge b a h) in
    ap (λ (by : ℤ). counted by a (suc (distance a b))) e

-- which numbers stand in a range, by its ends
pub in_falling : (f l n : ℤ) → int_lt l f ≡ true → int_le l n ≡ true → int_le n f ≡ is_among (whole n) (map whole (span f l))
in_falling f l n falls low =
    let h : l ≤ℤ f = (let s : l <ℤ f = lt_of l f falls in omega (arith, ints)) in
    let lo : l ≤ℤ n = le_of l n low in
    let d = distance_down f l h in
    rw (falling f l h)
    (by_lt_z f n (λ lt. of_gt n f lt ∙ sym (down_above (suc (distance f l)) f n lt))
    (λ ge. of_le n f ge ∙ sym (down_found (suc (distance f l)) f n ge (omega (arith, ints, d)))))

pub under_falling : (f l n : ℤ) → int_lt l f ≡ true → int_le l n ≡ false → false ≡ is_among (whole n) (map whole (span f l))
under_falling f l n falls low =
    let h : l ≤ℤ f = (let s : l <ℤ f = lt_of l f falls in omega (arith, ints)) in
    let lo : n <ℤ l = gt_of l n low in
    let d = distance_down f l h in
    rw (falling f l h) (sym (down_below (suc (distance f l)) f n (omega (arith, ints, d))))

pub in_rising : (f l n : ℤ) → int_lt l f ≡ false → int_le f n ≡ true → int_le n l ≡ is_among (whole n) (map whole (span f l))
in_rising f l n rises low =
    let h : f ≤ℤ l = ge_of l f rises in
    let lo : f ≤ℤ n = le_of f n low in
    let d = distance_up f l h in
    rw (rising f l h)
    (by_lt_z l n (λ lt. of_gt n l lt ∙ sym (up_above (suc (distance f l)) f n (omega (arith, ints, d))))
    (λ ge. of_le n l ge ∙ sym (up_found (suc (distance f l)) f n lo (omega (arith, ints, d)))))

pub under_rising : (f l n : ℤ) → int_lt l f ≡ false → int_le f n ≡ false → false ≡ is_among (whole n) (map whole (span f l))
under_rising f l n rises low =
    let h : f ≤ℤ l = ge_of l f rises in
    let lo : n <ℤ f = gt_of f n low in
    rw (rising f l h) (sym (up_below (suc (distance f l)) f n lo))

-- a range without its first number
pub span_one : (a b : ℤ) → a ≡ b → span a b ≡ a ∷ []
unfolding span
span_one a b e =
    let none : distance a b ≡ 0 = omega (arith, ints) in
    ap (λ (k : ℕ). counted (toward a b) a (suc k)) none

pub nearer_down : (a b : ℤ) → int_lt b a ≡ true → distance a b ≡ suc (distance (a -ℤ pos 1) b)
nearer_down a b h = let s : b <ℤ a = lt_of b a h in omega (arith, ints)

pub nearer_up : (a b : ℤ) → int_lt b a ≡ false → a ≢ b → distance a b ≡ suc (distance (a +ℤ pos 1) b)
nearer_up a b h ne =
    let s : (a +ℤ pos 1) ≤ℤ b = above a b (ge_of b a h) ne in
    omega (arith, ints)

pub span_down : (a b : ℤ) → int_lt b a ≡ true → span a b ≡ a ∷ span (a -ℤ pos 1) b
span_down a b h =
    let s : b <ℤ a = lt_of b a h in
    let one : b ≤ℤ (a -ℤ pos 1) = omega (arith, ints) in
    let same : a +ℤ negsuc 0 ≡ a -ℤ pos 1 = omega (arith, ints) in
    falling a b (omega (arith, ints)) ∙ ap (λ (k : ℕ). counted (negsuc 0) a (suc k)) (nearer_down a b h)
    ∙ ap (λ (x : ℤ). a ∷ counted (negsuc 0) x (suc (distance (a -ℤ pos 1) b))) same
    ∙ ap (λ (xs : List ℤ). a ∷ xs) (sym (falling (a -ℤ pos 1) b one))

pub span_up : (a b : ℤ) → int_lt b a ≡ false → a ≢ b → span a b ≡ a ∷ span (a +ℤ pos 1) b
span_up a b h ne =
    let s : a ≤ℤ b = ge_of b a h in
    let one : (a +ℤ pos 1) ≤ℤ b = above a b s ne in
    rising a b s ∙ ap (λ (k : ℕ). counted (pos 1) a (suc k)) (nearer_up a b h ne)
    ∙ ap (λ (xs : List ℤ). a ∷ xs) (sym (rising (a +ℤ pos 1) b one))

-- a range has a first number
pub span_head : (a b : ℤ) → (xs : List ℤ) × (span a b ≡ a ∷ xs)
unfolding span
span_head a b = (counted (toward a b) (a +ℤ toward a b) (distance a b), refl)
