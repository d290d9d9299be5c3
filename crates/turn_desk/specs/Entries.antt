-- The entries of one seat in a history, and how a step of a machine adds one.
use Rattle.std.specs.Prelude.{◌≡◌, ℕ, ◌==◌, ◌≤◌, nat_lt, Bool, true, false, cond, List, [], ◌∷◌, ◌++◌, length, Option, Some, None}
use Rattle.std.specs.List.{filter}

module _ {E : Type 0} where
  -- the entries of one seat, in order
  abbrev pub entries_of : (E → ℕ) → ℕ → List E → List E
  entries_of seat_of n log = filter (λ e. seat_of e == n) log

  -- no number from this one on has an entry
  abbrev pub HasNoneFrom : (E → ℕ) → ℕ → List E → Type 0
  HasNoneFrom seat_of seats log = (n : ℕ) → seats ≤ n → entries_of seat_of n log ≡ []

  -- a step that was taken adds one entry of the seat, and one that was refused none
  abbrev pub Grows : (E → ℕ) → ℕ → Bool → List E → List E → Type 0
  Grows seat_of n true found now = (e : E) × (now ≡ found ++ e ∷ []) × (seat_of e ≡ n)
  Grows seat_of n false found now = now ≡ found

  -- the longer of two histories
  abbrev pub longer : List E → List E → List E
  longer xs ys = cond (nat_lt (length xs) (length ys)) ys xs

module _ {M E : Type 0} (history : M → List E) where
  -- the history of the machine that lies there
  abbrev pub history_at : Option M → List E
  history_at None = []
  history_at (Some x) = history x

  -- the history of the machine that was put back into the slot that a seat holds
  abbrev pub history_in : List (ℕ × Option M) → List E
  history_in [] = []
  history_in (p ∷ c) = history_at p.1
