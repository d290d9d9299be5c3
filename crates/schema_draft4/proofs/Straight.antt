-- Where schemas come in an order, no reference comes back.
use Rattle.std.proofs.Common.{◌≡◌, ℕ, zero, suc, ◌<◌, ◌≤◌, List, [], ◌∷◌, ◌++◌, length, map, Option, Some, None, refl, arith, subst}
use Rattle.std.specs.Prelude.{slice_get}
use Rattle.std.specs.List.{AllByRecursion}
use Rattle.schema_order.specs.Leads.{IsAmong, here, behind, Leads, arrived, onward, edges_of}
use Rattle.schema_draft4.specs.Cycles.{Reference, NoneBack, all_in_place, in_place, reading_order, orders, reference_of, referred, references, references_in, steps}
use Rattle.schema_rules.specs.Order.{IsPlaced, IsOrdered}
use Rattle.schema_rules.specs.Rules.{Rule, test, properties, additional_properties, items, items_each, additional_items, all_of, any_of, one_of, negated, defines, refer, Schemas, target}
use Rattle.schema_rules.specs.Verdict.{or_none, rules_of}
use Rattle.schema_rules.specs.Views.{AreSoundNodes, schemas_of}
use Rattle.schema_rules.specs.declared.rule.Node.{Node}
use Rattle.schema_rules.proofs.Ordered.{ordered}

-- what a rule names for the same value comes before its schema
named_before : (ss : Schemas) (rank : ℕ → ℕ) (k : ℕ) (r : Rule) → IsPlaced ss rank k r → AllByRecursion (λ s. rank s < rank k) (in_place ss.targets r)
named_before ss rank k (test t) h = tt
named_before ss rank k (properties ps) h = tt
named_before ss rank k (additional_properties xs o) h = tt
named_before ss rank k (items s) h = tt
named_before ss rank k (items_each xs) h = tt
named_before ss rank k (additional_items n o) h = tt
named_before ss rank k (all_of xs) h = h
named_before ss rank k (any_of xs) h = h
named_before ss rank k (one_of xs) h = h
named_before ss rank k (negated s) h = (h, tt)
named_before ss rank k (defines ps) h = tt
named_before ss rank k (refer t) h = (h, tt)

both_before : (rank : ℕ → ℕ) (k : ℕ) (xs ys : List ℕ) → AllByRecursion (λ s. rank s < rank k) xs → AllByRecursion (λ s. rank s < rank k) ys → AllByRecursion (λ s. rank s < rank k) (xs ++ ys)
both_before rank k [] ys h i = i
both_before rank k (x ∷ xs) ys h i = (h.0, both_before rank k xs ys h.1 i)

all_before : (ss : Schemas) (rank : ℕ → ℕ) (k : ℕ) (rs : List Rule) → AllByRecursion (IsPlaced ss rank k) rs → AllByRecursion (λ s. rank s < rank k) (all_in_place ss.targets rs)
all_before ss rank k [] h = tt
all_before ss rank k (r ∷ rs) h = both_before rank k (in_place ss.targets r) (all_in_place ss.targets rs) (named_before ss rank k r h.0) (all_before ss rank k rs h.1)

one_before : (rank : ℕ → ℕ) (k b : ℕ) (xs : List ℕ) → AllByRecursion (λ s. rank s < rank k) xs → IsAmong b xs → rank b < rank k
one_before rank k b xs h (here c cs) = h.0
one_before rank k b xs h (behind c x cs i) = one_before rank k c cs h.1 i

edges_map : (ts : List ℕ) (rss : List (List Rule)) (k : ℕ) → edges_of (map (all_in_place ts) rss) k ≡ all_in_place ts (or_none (slice_get rss k))
edges_map ts [] k = refl
edges_map ts (rs ∷ rss) zero = refl
edges_map ts (rs ∷ rss) (suc k) = edges_map ts rss k

placed : (ss : Schemas) (rank : ℕ → ℕ) (k : ℕ) (o : Option (List Rule)) → ((rs : List Rule) → o ≡ Some rs → AllByRecursion (IsPlaced ss rank k) rs) → AllByRecursion (IsPlaced ss rank k) (or_none o)
placed ss rank k None h = tt
placed ss rank k (Some rs) h = h rs refl

placed_at : (ss : Schemas) (o : IsOrdered ss) (k : ℕ) → AllByRecursion (IsPlaced ss o.rank k) (rules_of ss k)
placed_at ss o k = placed ss o.rank k (slice_get ss.rules k) (o.falls k)

step_falls : (ss : Schemas) (o : IsOrdered ss) (a b : ℕ) → IsAmong b (edges_of (steps ss) a) → o.rank b < o.rank a
step_falls ss o a b i =
    let P : List ℕ → Type 0 = λ z. IsAmong b z in
    one_before o.rank a b (all_in_place ss.targets (rules_of ss a)) (all_before ss o.rank a (rules_of ss a) (placed_at ss o a)) (subst P (edges_map ss.targets ss.rules a) i)

chain_falls : (ss : Schemas) (o : IsOrdered ss) (es : List (List ℕ)) → es ≡ steps ss → (a b : ℕ) → Leads es a b → o.rank b ≤ o.rank a
chain_falls ss o es is a b (arrived k) = omega arith
chain_falls ss o es is a b (onward j k m edge rest) =
    let P : List (List ℕ) → Type 0 = λ z. IsAmong k (edges_of z j) in
    omega (arith, step_falls ss o j k (subst P is edge), chain_falls ss o es is k m rest)

none_of_rules : (ss : Schemas) (o : IsOrdered ss) (k : ℕ) (rs : List Rule) → AllByRecursion (IsPlaced ss o.rank k) rs → NoneBack ss (references_in k rs)
none_of_rules ss o k [] h = tt
none_of_rules ss o k (r ∷ rs) h = go r h.0 (none_of_rules ss o k rs h.1)
  where
    go : (r : Rule) → IsPlaced ss o.rank k r → NoneBack ss (references_in k rs) → NoneBack ss (reference_of k (referred r) ++ references_in k rs)
    go (test t) h rest = rest
    go (properties ps) h rest = rest
    go (additional_properties xs p) h rest = rest
    go (items s) h rest = rest
    go (items_each xs) h rest = rest
    go (additional_items n p) h rest = rest
    go (all_of xs) h rest = rest
    go (any_of xs) h rest = rest
    go (one_of xs) h rest = rest
    go (negated s) h rest = rest
    go (defines ps) h rest = rest
    go (refer t) h rest = (λ back. omega (arith, h, chain_falls ss o (steps ss) refl (target ss t) k back), rest)

none_of_both : (ss : Schemas) (xs ys : List Reference) → NoneBack ss xs → NoneBack ss ys → NoneBack ss (xs ++ ys)
none_of_both ss [] ys h i = i
none_of_both ss (x ∷ xs) ys h i = (h.0, none_of_both ss xs ys h.1 i)

none_of_schemas : (ss : Schemas) (o : IsOrdered ss) (ks : List ℕ) → NoneBack ss (references ss ks)
none_of_schemas ss o [] = tt
none_of_schemas ss o (k ∷ ks) = none_of_both ss (references_in k (rules_of ss k)) (references ss ks) (none_of_rules ss o k (rules_of ss k) (placed_at ss o k)) (none_of_schemas ss o ks)

pub straight : (ns : List Node) (ts : List ℕ) → AreSoundNodes ns ts → NoneBack (schemas_of ns ts) (reading_order (schemas_of ns ts))
straight ns ts sound = none_of_schemas (schemas_of ns ts) (ordered ns ts sound) (orders (schemas_of ns ts) (length (schemas_of ns ts).rules))
