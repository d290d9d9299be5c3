-- Numbered things, and what each stands on.
use Rattle.std.specs.Prelude.{◌≡◌, ℕ, Bool, true, List, [], ◌∷◌, map, Some, Option, None, slice_get, Vec}
use Rattle.std.specs.declared.alloc.Global.{Global}
use Rattle.std.specs.List.{AllByRecursion}

-- what the thing k stands on
abbrev pub or_empty : Option (List ℕ) → List ℕ
or_empty None = []
or_empty (Some xs) = xs

abbrev pub edges_of : List (List ℕ) → ℕ → List ℕ
edges_of es k = or_empty (slice_get es k)

-- b is among these
pub data IsAmong : ℕ → List ℕ → Type 0 where
  here : (b : ℕ) (xs : List ℕ) → IsAmong b (b ∷ xs)
  behind : (b x : ℕ) (xs : List ℕ) → IsAmong b xs → IsAmong b (x ∷ xs)

-- a is b, or stands on what leads to b
pub data Leads : List (List ℕ) → ℕ → ℕ → Type 0 where
  arrived : {es : List (List ℕ)} (a : ℕ) → Leads es a a
  onward : {es : List (List ℕ)} (a b c : ℕ) → IsAmong b (edges_of es a) → Leads es b c → Leads es a c

abbrev pub lists_of : List (Vec ℕ Global) → List (List ℕ)
lists_of vs = map (λ v. v.items) vs

abbrev pub IsSeen : List Bool → ℕ → Type 0
IsSeen seen k = slice_get seen k ≡ Some true

-- from leads to all that was seen
abbrev pub SeenAreLed : List (List ℕ) → ℕ → List Bool → Type 0
SeenAreLed es from seen = (k : ℕ) → IsSeen seen k → Leads es from k

-- from leads to these
abbrev pub AllLed : List (List ℕ) → ℕ → List ℕ → Type 0
AllLed es from ks = AllByRecursion (λ k. Leads es from k) ks

abbrev pub AllAmong : List ℕ → List ℕ → Type 0
AllAmong xs ks = AllByRecursion (λ k. IsAmong k xs) ks

abbrev pub AllSeen : List Bool → List ℕ → Type 0
AllSeen seen ks = AllByRecursion (IsSeen seen) ks

-- what a seen thing stands on is seen
abbrev pub AreClosed : List (List ℕ) → List Bool → Type 0
AreClosed es seen = (k : ℕ) → IsSeen seen k → AllSeen seen (edges_of es k)
