-- Sums and counts over lists.
use Rattle.std.specs.Prelude.{ℕ, ◌+◌, ◌==◌, Bool, cond, List, [], ◌∷◌}

-- the sum of a number over a list
abbrev pub total : {A : Type 0} → (A → ℕ) → List A → ℕ
total f [] = 0
total f (x ∷ xs) = f x + total f xs

-- 1 where it holds
abbrev pub bit : Bool → ℕ
bit b = cond b 1 0

-- how often a number stands in a list
abbrev pub times : ℕ → List ℕ → ℕ
times n xs = total (λ x. bit (x == n)) xs

-- it holds of each element
abbrev pub Every : {A : Type 0} → (A → Type 0) → List A → Type 0
Every P [] = Unit {0}
Every P (x ∷ xs) = P x × Every P xs
