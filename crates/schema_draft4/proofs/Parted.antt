-- The rules of keywords whose values are lists of schemas.
use Rattle.std.proofs.Common.{◌≡◌, ℕ, List, [], ◌∷◌, map, Ok, refl, ap, ◌∙◌}
use Rattle.std.specs.Prelude.{if◌then◌else◌}
use Rattle.json_subset.specs.Tree.{Tree, node, null, bool, number, text, list, object, whole, decimal, wide}
use Rattle.json_subset.specs.Documents.{form, kind}
use Rattle.json_subset.specs.declared.doc.Kind.TheVariants as kinds
use Rattle.schema_draft4.specs.Faults.{rest_items}
use Rattle.schema_draft4.specs.Reading.{Reads, Definitions, by_parts, item_schemas, is_list, kind_of, parts, schema_numbers}
use Rattle.schema_rules.specs.Rules.{Rule, items_each}
use Rattle.schema_rules.specs.Views.{unnamed}

numbers_back : (ids : List ℕ) → schema_numbers (map unnamed ids) ≡ ids
numbers_back [] = refl
numbers_back (k ∷ ids) = ap (λ z. k ∷ z) (numbers_back ids)

pub list_rule : (make : List ℕ → Rule) (r : Reads (List (List ℕ × ℕ))) (ids : List ℕ) (ss : List (List Rule)) → r ≡ Ok (map unnamed ids, ss) → by_parts (λ qs. make (schema_numbers qs) ∷ []) r ≡ Ok (make ids ∷ [], ss)
list_rule make r ids ss e =
    let f : Reads (List (List ℕ × ℕ)) → Reads (List Rule) = λ z. by_parts (λ qs. make (schema_numbers qs) ∷ []) z in
    let g : List ℕ → Reads (List Rule) = λ z. Ok (make z ∷ [], ss) in
    ap f e ∙ ap g (numbers_back ids)

pub each_rule : (defs : Definitions) (ss more : List (List Rule)) (t : Tree) (n : ℕ) (ids : List ℕ) (r : Reads (List Rule)) → kind (form t) ≡ kinds.List n → item_schemas defs [] ss (rest_items (form t) 0) ≡ Ok (map unnamed ids, more) → (if is_list (kind_of t) then by_parts (λ qs. items_each (schema_numbers qs) ∷ []) (parts defs ss t) else r) ≡ Ok (items_each ids ∷ [], more)
each_rule defs ss more (node a b null) n ids r e h = cc
each_rule defs ss more (node a b (bool x)) n ids r e h = cc
each_rule defs ss more (node a b (number (whole y) x)) n ids r e h = cc
each_rule defs ss more (node a b (number decimal x)) n ids r e h = cc
each_rule defs ss more (node a b (number wide x)) n ids r e h = cc
each_rule defs ss more (node a b (text x)) n ids r e h = cc
each_rule defs ss more (node a b (list ts)) n ids r e h = list_rule items_each (item_schemas defs [] ss ts) ids more h
each_rule defs ss more (node a b (object x)) n ids r e h = cc
