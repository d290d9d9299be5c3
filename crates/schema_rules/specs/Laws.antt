-- What holds of the definitions, whatever the program does.
use Rattle.std.specs.Prelude.{◌≡◌, ◌↔◌, ◌<◌, ℕ, length}
use Rattle.std.specs.List.{AllByRecursion}
use Rattle.json_subset.specs.Tree.{Tree}
use Rattle.schema_rules.specs.Rules.{Schemas}
use Rattle.schema_rules.specs.Verdict.{valid, one, every, rules_of, verdict}
use Rattle.schema_rules.specs.Order.{IsOrdered}
use Rattle.schema_rules.specs.Cases.{value_of}

-- the verdict of schemas that come in an order is that of their keywords
abbrev pub UnfoldsEverywhere : Type 0
UnfoldsEverywhere = (ss : Schemas) → IsOrdered ss → (t : Tree) (k : ℕ) → k < length ss.rules → verdict ss t k ≡ every ss (verdict ss t) (value_of ss t) (rules_of ss k)

-- a value is valid exactly where no keyword fails
abbrev pub FailsByAKeyword : Type 0
FailsByAKeyword = (ss : Schemas) → IsOrdered ss → (t : Tree) (k : ℕ) → k < length ss.rules → (verdict ss t k ≡ valid) ↔ AllByRecursion (λ r. one ss (verdict ss t) (value_of ss t) r ≡ valid) (rules_of ss k)
