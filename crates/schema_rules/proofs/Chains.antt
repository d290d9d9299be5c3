-- Chains of schemas of one value end.
use Rattle.std.proofs.Common.{◌≡◌, ℕ, zero, suc, ◌<◌, List, [], ◌∷◌, length, Option, Some, None, refl, ◌∙◌, ap, arith, true}
use Rattle.std.specs.Prelude.{slice_get, if◌then◌else◌, ◌==◌}
use Rattle.std.specs.List.{AllByRecursion}
use Rattle.json_subset.specs.Tree.{Tree, node}
use Rattle.schema_keywords.specs.declared.keyword.Keyword.TheVariants.{AnyOf, OneOf}
use Rattle.schema_rules.specs.Rules.{Rule, test, properties, additional_properties, items, items_each, additional_items, all_of, any_of, one_of, negated, defines, refer, Schemas}
use Rattle.schema_rules.specs.Verdict.{Judge, Value, first_of_two, all, any, how_many, is_valid, unless, not_valid, one, every, within, or_none, rules_of, verdict}
use Rattle.schema_rules.specs.Order.{IsPlaced, IsOrdered}
use Rattle.schema_rules.specs.Cases.{value_of}

all_alike : (f g : Judge) (rank : ℕ → ℕ) (k : ℕ) (xs : List ℕ) → ((j : ℕ) → rank j < rank k → f j ≡ g j) → AllByRecursion (λ s. rank s < rank k) xs → all f xs ≡ all g xs
all_alike f g rank k [] same before = refl
all_alike f g rank k (s ∷ xs) same before = ap (λ z. first_of_two z (all f xs)) (same s before.0) ∙ ap (first_of_two (g s)) (all_alike f g rank k xs same before.1)

any_alike : (f g : Judge) (rank : ℕ → ℕ) (k : ℕ) (xs : List ℕ) → ((j : ℕ) → rank j < rank k → f j ≡ g j) → AllByRecursion (λ s. rank s < rank k) xs → any f xs ≡ any g xs
any_alike f g rank k [] same before = refl
any_alike f g rank k (s ∷ xs) same before = ap (λ z. if is_valid z then true else any f xs) (same s before.0) ∙ ap (λ z. if is_valid (g s) then true else z) (any_alike f g rank k xs same before.1)

many_alike : (f g : Judge) (rank : ℕ → ℕ) (k : ℕ) (xs : List ℕ) → ((j : ℕ) → rank j < rank k → f j ≡ g j) → AllByRecursion (λ s. rank s < rank k) xs → how_many f xs ≡ how_many g xs
many_alike f g rank k [] same before = refl
many_alike f g rank k (s ∷ xs) same before = ap (λ z. if is_valid z then suc (how_many f xs) else how_many f xs) (same s before.0) ∙ ap (λ z. if is_valid (g s) then suc z else z) (many_alike f g rank k xs same before.1)

one_alike : (ss : Schemas) (f g : Judge) (v : Value) (rank : ℕ → ℕ) (k : ℕ) (r : Rule) → ((j : ℕ) → rank j < rank k → f j ≡ g j) → IsPlaced ss rank k r → one ss f v r ≡ one ss g v r
one_alike ss f g v rank k (test t) same before = refl
one_alike ss f g v rank k (properties ps) same before = refl
one_alike ss f g v rank k (additional_properties xs o) same before = refl
one_alike ss f g v rank k (items s) same before = refl
one_alike ss f g v rank k (items_each xs) same before = refl
one_alike ss f g v rank k (additional_items n o) same before = refl
one_alike ss f g v rank k (all_of xs) same before = all_alike f g rank k xs same before
one_alike ss f g v rank k (any_of xs) same before = ap (λ b. unless b v.at AnyOf) (any_alike f g rank k xs same before)
one_alike ss f g v rank k (one_of xs) same before = ap (λ n. unless (n == 1) v.at OneOf) (many_alike f g rank k xs same before)
one_alike ss f g v rank k (negated s) same before = ap (λ z. not_valid z v.at) (same s before)
one_alike ss f g v rank k (defines ps) same before = refl
one_alike ss f g v rank k (refer t) same before = same _ before

every_alike : (ss : Schemas) (f g : Judge) (v : Value) (rank : ℕ → ℕ) (k : ℕ) (rs : List Rule) → ((j : ℕ) → rank j < rank k → f j ≡ g j) → AllByRecursion (IsPlaced ss rank k) rs → every ss f v rs ≡ every ss g v rs
every_alike ss f g v rank k [] same before = refl
every_alike ss f g v rank k (r ∷ rs) same before =
    ap (λ z. first_of_two z (every ss f v rs)) (one_alike ss f g v rank k r same before.0)
    ∙ ap (first_of_two (one ss g v r)) (every_alike ss f g v rank k rs same before.1)

placed : (ss : Schemas) (rank : ℕ → ℕ) (k : ℕ) (o : Option (List Rule)) → ((rs : List Rule) → o ≡ Some rs → AllByRecursion (IsPlaced ss rank k) rs) → AllByRecursion (IsPlaced ss rank k) (or_none o)
placed ss rank k None h = tt
placed ss rank k (Some rs) h = h rs refl

-- one level of a schema, by any two judges that agree on the schemas before it
level : (ss : Schemas) (v : Value) (k : ℕ) (f g : Judge) (o : IsOrdered ss) → ((j : ℕ) → o.rank j < o.rank k → f j ≡ g j) → every ss f v (rules_of ss k) ≡ every ss g v (rules_of ss k)
level ss v k f g o same = every_alike ss f g v o.rank k (rules_of ss k) same (placed ss o.rank k (slice_get ss.rules k) (o.falls k))

-- more levels change nothing
pub within_alike : (ss : Schemas) (v : Value) (o : IsOrdered ss) (d e k : ℕ) → o.rank k < d → o.rank k < e → within ss v d k ≡ within ss v e k
unfolding within
within_alike ss v o zero e k h i = absurd (omega (arith, h))
within_alike ss v o (suc d) zero k h i = absurd (omega (arith, i))
within_alike ss v o (suc d) (suc e) k h i =
    level ss v k (within ss v d) (within ss v e) o (λ j before. within_alike ss v o d e j (omega (arith, h, before)) (omega (arith, i, before)))

-- a schema's verdict is that of its keywords, each judged by what the schemas say of the value
unfolded : (ss : Schemas) (v : Value) (o : IsOrdered ss) (n k : ℕ) → o.rank k < n → within ss v n k ≡ every ss (within ss v n) v (rules_of ss k)
unfolding within
unfolded ss v o zero k h = absurd (omega (arith, h))
unfolded ss v o (suc n) k h =
    level ss v k (within ss v n) (within ss v (suc n)) o (λ j before. within_alike ss v o n (suc n) j (omega (arith, h, before)) (omega (arith, h, before)))

pub unfolds : (ss : Schemas) (o : IsOrdered ss) (t : Tree) (k : ℕ) → k < length ss.rules → verdict ss t k ≡ every ss (verdict ss t) (value_of ss t) (rules_of ss k)
unfolds ss o (node first past f) k h = unfolded ss _ o (length ss.rules) k (o.few k h)
