-- Places change nothing of whether a keyword is met.
use Rattle.std.proofs.Common.{◌≡◌, ℕ, suc, true, false, List, [], ◌∷◌, Option, Some, None, option_map, is_some, refl, ap, ◌∙◌}
use Rattle.std.specs.Prelude.{if◌then◌else◌, nat_le}
use Rattle.json_subset.specs.Tree.{Tree, Form, null, bool, number, text, list, object, Trees, no_trees, tree, Members}
use Rattle.json_subset.specs.Documents.{form, first_named, count}
use Rattle.json_values.specs.Same.{same, same_form}
use Rattle.json_subset.specs.Bare.{bare, bare_form, bare_trees, bare_members}
use Rattle.json_values.proofs.Plain.{same_plain, same_plain_left_form, plain_named, plain_count}
use Rattle.json_distinct.specs.Distinct.{is_in, are_distinct}
use Rattle.schema_keywords.specs.Keywords.{Test, type, required, minimum, maximum, multiple_of, min_length, max_length, pattern, enum, min_items, max_items, unique_items, min_properties, max_properties, is_of, is_any, is_among, has_all, meets}
use Rattle.schema_keywords.specs.declared.keyword.TypeName.{TypeName}
use Rattle.schema_keywords.specs.declared.keyword.TypeName.TheVariants as names

of_plain : (f : Form) (t : TypeName) → is_of (bare_form f) t ≡ is_of f t
of_plain null t = refl
of_plain (bool b) t = refl
of_plain (number x s) t = refl
of_plain (text s) t = refl
of_plain (list ts) names.Array = refl
of_plain (list ts) names.Boolean = refl
of_plain (list ts) names.Integer = refl
of_plain (list ts) names.Null = refl
of_plain (list ts) names.Number = refl
of_plain (list ts) names.Object = refl
of_plain (list ts) names.Text = refl
of_plain (object ms) names.Array = refl
of_plain (object ms) names.Boolean = refl
of_plain (object ms) names.Integer = refl
of_plain (object ms) names.Null = refl
of_plain (object ms) names.Number = refl
of_plain (object ms) names.Object = refl
of_plain (object ms) names.Text = refl

any_plain : (f : Form) (ts : List TypeName) → is_any (bare_form f) ts ≡ is_any f ts
any_plain f [] = refl
any_plain f (t ∷ ts) = ap (λ b. if b then true else is_any (bare_form f) ts) (of_plain f t) ∙ ap (λ b. if is_of f t then true else b) (any_plain f ts)

among_plain : (f : Form) (es : List Tree) → is_among (bare_form f) es ≡ is_among f es
among_plain f [] = refl
among_plain f (e ∷ es) = ap (λ b. if b then true else is_among (bare_form f) es) (same_plain_left_form f (form e)) ∙ ap (λ b. if same_form f (form e) then true else b) (among_plain f es)

some_map : (f : Tree → Tree) (o : Option Tree) → is_some (option_map f o) ≡ is_some o
some_map f None = refl
some_map f (Some t) = refl

all_plain : (xs : List (List ℕ)) (ms : Members) → has_all xs (bare_members ms) ≡ has_all xs ms
all_plain [] ms = refl
all_plain (x ∷ xs) ms =
    ap (λ b. if b then has_all xs (bare_members ms) else false) (ap is_some (plain_named ms x) ∙ some_map bare (first_named ms x))
    ∙ ap (λ b. if is_some (first_named ms x) then b else false) (all_plain xs ms)

in_plain : (t : Tree) (ts : Trees) → is_in (bare t) (bare_trees ts) ≡ is_in t ts
in_plain t no_trees = refl
in_plain t (tree u us) = ap (λ b. if b then true else is_in (bare t) (bare_trees us)) (same_plain t u) ∙ ap (λ b. if same t u then true else b) (in_plain t us)

distinct_plain : (ts : Trees) → are_distinct (bare_trees ts) ≡ are_distinct ts
distinct_plain no_trees = refl
distinct_plain (tree t ts) = ap (λ b. if b then false else are_distinct (bare_trees ts)) (in_plain t ts) ∙ ap (λ b. if is_in t ts then false else b) (distinct_plain ts)

trees_count : (ts : Trees) → count (bare_trees ts) ≡ count ts
trees_count no_trees = refl
trees_count (tree t ts) = ap suc (trees_count ts)

pub meets_plain : (f : Form) (t : Test) → meets (bare_form f) t ≡ meets f t
meets_plain f (type ts) = any_plain f ts
meets_plain null (required xs) = refl
meets_plain (bool v) (required xs) = refl
meets_plain (number x s) (required xs) = refl
meets_plain (text t) (required xs) = refl
meets_plain (list ts) (required xs) = refl
meets_plain (object ms) (required xs) = all_plain xs ms
meets_plain null (minimum b sharp) = refl
meets_plain (bool v) (minimum b sharp) = refl
meets_plain (number x s) (minimum b sharp) = refl
meets_plain (text t) (minimum b sharp) = refl
meets_plain (list ts) (minimum b sharp) = refl
meets_plain (object ms) (minimum b sharp) = refl
meets_plain null (maximum b sharp) = refl
meets_plain (bool v) (maximum b sharp) = refl
meets_plain (number x s) (maximum b sharp) = refl
meets_plain (text t) (maximum b sharp) = refl
meets_plain (list ts) (maximum b sharp) = refl
meets_plain (object ms) (maximum b sharp) = refl
meets_plain null (multiple_of n) = refl
meets_plain (bool v) (multiple_of n) = refl
meets_plain (number x s) (multiple_of n) = refl
meets_plain (text t) (multiple_of n) = refl
meets_plain (list ts) (multiple_of n) = refl
meets_plain (object ms) (multiple_of n) = refl
meets_plain null (min_length n) = refl
meets_plain (bool v) (min_length n) = refl
meets_plain (number x s) (min_length n) = refl
meets_plain (text t) (min_length n) = refl
meets_plain (list ts) (min_length n) = refl
meets_plain (object ms) (min_length n) = refl
meets_plain null (max_length n) = refl
meets_plain (bool v) (max_length n) = refl
meets_plain (number x s) (max_length n) = refl
meets_plain (text t) (max_length n) = refl
meets_plain (list ts) (max_length n) = refl
meets_plain (object ms) (max_length n) = refl
meets_plain null (pattern p) = refl
meets_plain (bool v) (pattern p) = refl
meets_plain (number x s) (pattern p) = refl
meets_plain (text t) (pattern p) = refl
meets_plain (list ts) (pattern p) = refl
meets_plain (object ms) (pattern p) = refl
meets_plain f (enum es) = among_plain f es
meets_plain null (min_items n) = refl
meets_plain (bool v) (min_items n) = refl
meets_plain (number x s) (min_items n) = refl
meets_plain (text t) (min_items n) = refl
meets_plain (list ts) (min_items n) = ap (nat_le n) (trees_count ts)
meets_plain (object ms) (min_items n) = refl
meets_plain null (max_items n) = refl
meets_plain (bool v) (max_items n) = refl
meets_plain (number x s) (max_items n) = refl
meets_plain (text t) (max_items n) = refl
meets_plain (list ts) (max_items n) = ap (λ k. nat_le k n) (trees_count ts)
meets_plain (object ms) (max_items n) = refl
meets_plain null unique_items = refl
meets_plain (bool v) unique_items = refl
meets_plain (number x s) unique_items = refl
meets_plain (text t) unique_items = refl
meets_plain (list ts) unique_items = distinct_plain ts
meets_plain (object ms) unique_items = refl
meets_plain null (min_properties n) = refl
meets_plain (bool v) (min_properties n) = refl
meets_plain (number x s) (min_properties n) = refl
meets_plain (text t) (min_properties n) = refl
meets_plain (list ts) (min_properties n) = refl
meets_plain (object ms) (min_properties n) = ap (nat_le n) (plain_count ms)
meets_plain null (max_properties n) = refl
meets_plain (bool v) (max_properties n) = refl
meets_plain (number x s) (max_properties n) = refl
meets_plain (text t) (max_properties n) = refl
meets_plain (list ts) (max_properties n) = refl
meets_plain (object ms) (max_properties n) = ap (λ k. nat_le k n) (plain_count ms)
