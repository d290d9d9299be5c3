-- Schemas of one value come in an order: no schema leads back to itself.
use Rattle.std.specs.Prelude.{◌≡◌, ◌<◌, ℕ, List, length, Some, slice_get}
use Rattle.std.specs.List.{AllByRecursion}
use Rattle.schema_rules.specs.Rules.{Rule, test, properties, additional_properties, items, items_each, additional_items, all_of, any_of, one_of, negated, defines, refer, Schemas, target}

-- what the rule names for the same value comes before the schema k
abbrev pub IsPlaced : Schemas → (ℕ → ℕ) → ℕ → Rule → Type 0
IsPlaced ss rank k (test t) = Unit {0}
IsPlaced ss rank k (properties ps) = Unit {0}
IsPlaced ss rank k (additional_properties xs o) = Unit {0}
IsPlaced ss rank k (items s) = Unit {0}
IsPlaced ss rank k (items_each xs) = Unit {0}
IsPlaced ss rank k (additional_items n o) = Unit {0}
IsPlaced ss rank k (all_of xs) = AllByRecursion (λ s. rank s < rank k) xs
IsPlaced ss rank k (any_of xs) = AllByRecursion (λ s. rank s < rank k) xs
IsPlaced ss rank k (one_of xs) = AllByRecursion (λ s. rank s < rank k) xs
IsPlaced ss rank k (negated s) = rank s < rank k
IsPlaced ss rank k (defines ps) = Unit {0}
IsPlaced ss rank k (refer t) = rank (target ss t) < rank k

-- the schemas can be put into an order in which each comes behind all that it names for the same value
pub record IsOrdered (ss : Schemas) : Type 0 where
  pub rank : ℕ → ℕ
  pub few : (k : ℕ) → k < length ss.rules → rank k < length ss.rules
  pub falls : (k : ℕ) (rs : List Rule) → slice_get ss.rules k ≡ Some rs → AllByRecursion (IsPlaced ss rank k) rs
