-- The children of a node.
use Rattle.std.proofs.Common.{◌≡◌, ℕ, zero, suc, ◌+◌, ◌<◌, ◌≤◌, List, [], ◌∷◌, length, Option, Some, None, refl, ap, ◌∙◌, sym, arith, drop, map, ◌++◌, append_assoc, get_or}
use Rattle.std.proofs.lemmas.List.Elements.{All-append}
use Rattle.std.proofs.lemmas.List.{map-append}
use Rattle.std.specs.Prelude.{slice_get, All}
use Rattle.json_subset.specs.Tree.{Tree, Form, null, bool, number, text, list, object, Trees, no_trees, tree, Members, no_members, member, whole, decimal, wide}
use Rattle.json_subset.specs.Documents.{count, count_members, tree_at, pair_at, item_at, entry_at, kind, Document, IsPart}
use Rattle.json_subset.specs.declared.doc.Kind.TheVariants as kinds
use Rattle.jsonpath_core.specs.Selecting.{children, items, values}

pub count_items : (ts : Trees) → count ts ≡ length (items ts)
count_items no_trees = refl
count_items (tree t ts) = ap suc (count_items ts)

pub count_values : (ms : Members) → count_members ms ≡ length (values ms)
count_values no_members = refl
count_values (member x t ms) = ap suc (count_values ms)

-- how many children a node has, by its kind
abbrev pub child_count : kinds.the_data → ℕ
child_count (kinds.List n) = n
child_count (kinds.Object n) = n
child_count other = 0

pub counted : (f : Form) → child_count (kind f) ≡ length (children f)
counted null = refl
counted (bool b) = refl
counted (number (whole z) s) = refl
counted (number decimal s) = refl
counted (number wide s) = refl
counted (text t) = refl
counted (list ts) = count_items ts
counted (object ms) = count_values ms

item_there : (ts : Trees) (i : ℕ) → slice_get (items ts) i ≡ tree_at ts i
item_there no_trees i = refl
item_there (tree t ts) zero = refl
item_there (tree t ts) (suc i) = item_there ts i

abbrev value_at : Option (List ℕ × Tree) → Option Tree
value_at None = None
value_at (Some p) = Some p.1

value_there : (ms : Members) (i : ℕ) → slice_get (values ms) i ≡ value_at (pair_at ms i)
value_there no_members i = refl
value_there (member x t ms) zero = refl
value_there (member x t ms) (suc i) = value_there ms i

-- a child is an item or a member's value
pub child_item : (f : Form) (i : ℕ) (t : Tree) → item_at f i ≡ Some t → slice_get (children f) i ≡ Some t
child_item null i t e = absurd (cc)
child_item (bool b) i t e = absurd (cc)
child_item (number k s) i t e = absurd (cc)
child_item (text x) i t e = absurd (cc)
child_item (list ts) i t e = item_there ts i ∙ e
child_item (object ms) i t e = absurd (cc)

pub child_value : (f : Form) (i : ℕ) (x : List ℕ) (t : Tree) → entry_at f i ≡ Some (x, t) → slice_get (children f) i ≡ Some t
child_value null i x t e = absurd (cc)
child_value (bool b) i x t e = absurd (cc)
child_value (number k s) i x t e = absurd (cc)
child_value (text y) i x t e = absurd (cc)
child_value (list ts) i x t e = absurd (cc)
child_value (object ms) i x t e = value_there ms i ∙ ap value_at e

pub child_none : (f : Form) (i : ℕ) → item_at f i ≡ None → entry_at f i ≡ None → slice_get (children f) i ≡ None
child_none null i e h = refl
child_none (bool b) i e h = refl
child_none (number k s) i e h = refl
child_none (text x) i e h = refl
child_none (list ts) i e h = item_there ts i ∙ e
child_none (object ms) i e h = value_there ms i ∙ ap value_at h

past_items : (ts : Trees) (i : ℕ) → length (items ts) ≤ i → tree_at ts i ≡ None
past_items no_trees i le = refl
past_items (tree t ts) zero le = absurd (omega (arith, le))
past_items (tree t ts) (suc i) le = past_items ts i (omega (arith, le))

-- no item stands past the children
pub past_children : (f : Form) (i : ℕ) → length (children f) ≤ i → item_at f i ≡ None
past_children null i le = refl
past_children (bool b) i le = refl
past_children (number k s) i le = refl
past_children (text x) i le = refl
past_children (list ts) i le = past_items ts i le
past_children (object ms) i le = refl

-- the children from one place on
pub next_child : {A : Type 0} (xs : List A) (i : ℕ) (x : A) → slice_get xs i ≡ Some x → drop i xs ≡ x ∷ drop (i + 1) xs
next_child [] i x e = absurd (cc)
next_child (y ∷ ys) zero x e = let same : y ≡ x = cc in ap (λ z. z ∷ ys) same
next_child (y ∷ ys) (suc i) x e = next_child ys i x e ∙ ap (λ j. x ∷ drop j (y ∷ ys)) (more i)
  where
    more : (i : ℕ) → suc (i + 1) ≡ suc i + 1
    more i = omega arith

pub no_child : {A : Type 0} (xs : List A) (i : ℕ) → i < length xs → slice_get xs i ≡ None → ⊥
no_child [] i less e = omega (arith, less)
no_child (y ∷ ys) zero less e = cc
no_child (y ∷ ys) (suc i) less e = no_child ys i (omega (arith, less)) e

-- a child was added to those before it
pub child_added : (f : ℕ → Tree) (found : List ℕ) (x : ℕ) (all : List Tree) (i : ℕ) → slice_get all i ≡ Some (f x) → map f (found ++ x ∷ []) ++ drop (i + 1) all ≡ map f found ++ drop i all
child_added f found x all i e =
    ap (λ ys. ys ++ drop (i + 1) all) (map-append f found (x ∷ []))
    ∙ append_assoc (map f found) (f x ∷ []) (drop (i + 1) all)
    ∙ ap (λ ys. map f found ++ ys) (sym (next_child all i (f x) e))

one_part : (d : Document) (x : ℕ) → IsPart d x → (k e : ℕ) → k < length (x ∷ []) → IsPart d (get_or (x ∷ []) k e)
one_part d x one zero e less = one
one_part d x one (suc k) e less = absurd (omega (arith, less))

pub parts_added : (d : Document) (found : List ℕ) (x : ℕ) → All (IsPart d) found → IsPart d x → All (IsPart d) (found ++ x ∷ [])
parts_added d found x all one = All-append (IsPart d) found (x ∷ []) all (one_part d x one)
