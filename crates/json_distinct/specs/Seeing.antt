-- What is remembered of the values that were looked at: one of each code, and the others.
use Rattle.std.specs.Prelude.{◌≡◌, ◌<◌, ◌⊎◌, ℕ, Bool, false, List, [], ◌∷◌, Option, Some, None}
use Rattle.std.specs.List.{AllByRecursion}
use Rattle.std.specs.Ordering.{nat_cmp}
use Rattle.std.specs.BTreeMap.{BTreeMap, get}
use Rattle.json_subset.specs.Tree.{Tree}
use Rattle.json_subset.specs.Nodes.{AllBelow}
use Rattle.json_values.specs.Same.{same}
use Rattle.json_distinct.specs.Codes.{code}

abbrev pub IsListed : List ℕ → ℕ → Type 0
IsListed [] m = ⊥
IsListed (k ∷ ks) m = (k ≡ m) ⊎ IsListed ks m

-- whether a value is the same as the one that was found
abbrev pub is_same_as : (ℕ → Tree) → Tree → Option ℕ → Bool
is_same_as f t None = false
is_same_as f t (Some m) = same t (f m)

-- where f gives the values, each of these is the one of its code or among the others, and nothing else is remembered
pub record AreSeen (f : ℕ → Tree) (by_code : BTreeMap ℕ ℕ) (others ids : List ℕ) : Type 0 where
  pub each : AllByRecursion (λ m. (get nat_cmp by_code (code (f m)) ≡ Some m) ⊎ IsListed others m) ids
  pub coded : (c m : ℕ) → get nat_cmp by_code c ≡ Some m → IsListed ids m
  pub behind : (m : ℕ) → IsListed others m → IsListed ids m

-- nothing is remembered but numbers below this one
pub record AreSeenBelow (n : ℕ) (by_code : BTreeMap ℕ ℕ) (others : List ℕ) : Type 0 where
  pub coded : (c m : ℕ) → get nat_cmp by_code c ≡ Some m → m < n
  pub rest : AllBelow n others
