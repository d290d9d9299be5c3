-- A value is valid exactly where no keyword fails.
use Rattle.std.proofs.Common.{◌≡◌, ℕ, List, [], ◌∷◌, length, ◌<◌, refl, sym, ◌∙◌}
use Rattle.std.specs.Prelude.{◌↔◌}
use Rattle.std.specs.List.{AllByRecursion}
use Rattle.json_subset.specs.Tree.{Tree}
use Rattle.schema_rules.specs.Rules.{Rule, Schemas}
use Rattle.schema_rules.specs.Verdict.{Verdict, valid, invalid, Judge, Value, first_of_two, one, every, rules_of, verdict}
use Rattle.schema_rules.specs.Order.{IsOrdered}
use Rattle.schema_rules.specs.Cases.{value_of}
use Rattle.schema_rules.proofs.Chains.{unfolds}

first_valid : (a b : Verdict) → first_of_two a b ≡ valid → (a ≡ valid) × (b ≡ valid)
first_valid valid b e = (refl, e)
first_valid (invalid at k) b e = absurd cc

both_valid : (a b : Verdict) → a ≡ valid → b ≡ valid → first_of_two a b ≡ valid
both_valid valid b e f = f
both_valid (invalid at k) b e f = absurd cc

all_of_every : (ss : Schemas) (here : Judge) (v : Value) (rs : List Rule) → every ss here v rs ≡ valid → AllByRecursion (λ r. one ss here v r ≡ valid) rs
all_of_every ss here v [] e = tt
all_of_every ss here v (r ∷ rs) e = let p = first_valid (one ss here v r) (every ss here v rs) e in (p.0, all_of_every ss here v rs p.1)

every_of_all : (ss : Schemas) (here : Judge) (v : Value) (rs : List Rule) → AllByRecursion (λ r. one ss here v r ≡ valid) rs → every ss here v rs ≡ valid
every_of_all ss here v [] h = refl
every_of_all ss here v (r ∷ rs) h = both_valid (one ss here v r) (every ss here v rs) h.0 (every_of_all ss here v rs h.1)

pub fails_by_a_keyword : (ss : Schemas) → IsOrdered ss → (t : Tree) (k : ℕ) → k < length ss.rules → (verdict ss t k ≡ valid) ↔ AllByRecursion (λ r. one ss (verdict ss t) (value_of ss t) r ≡ valid) (rules_of ss k)
fails_by_a_keyword ss o t k h = (
  λ e. all_of_every ss (verdict ss t) (value_of ss t) (rules_of ss k) (sym (unfolds ss o t k h) ∙ e),
  λ all. unfolds ss o t k h ∙ every_of_all ss (verdict ss t) (value_of ss t) (rules_of ss k) all,
)
