-- The items of a list, and the members of an object.
use Rattle.std.proofs.Common.{◌≡◌, ℕ, zero, suc, ◌+◌, ◌<◌, ◌≤◌, List, [], ◌∷◌, ◌++◌, length, map, drop, Option, Some, None, refl, ap, ◌∙◌, sym, arith, append_assoc, append-nil}
use Rattle.std.proofs.lemmas.List.{drop_all}
use Rattle.std.specs.Prelude.{slice_get}
use Rattle.json_subset.specs.Tree.{Form, null, bool, number, text, list, object, Trees, no_trees, tree, Members, no_members, member, whole, decimal, wide}
use Rattle.json_subset.specs.Documents.{count, count_members, tree_at, pair_at, item_at, entry_at, kind}
use Rattle.json_subset.specs.declared.doc.Kind.TheVariants as kinds
use Rattle.policy_core.specs.Replies.{items, items_of, entries, entries_of, or_else, first_of, at_place, fault_there}

count_items : (ts : Trees) → count ts ≡ length (items_of ts)
count_items no_trees = refl
count_items (tree t ts) = ap suc (count_items ts)

count_entries : (ms : Members) → count_members ms ≡ length (entries_of ms)
count_entries no_members = refl
count_entries (member x t ms) = ap suc (count_entries ms)

-- how many items or members a value has, by its kind
abbrev pub item_count : kinds.the_data → ℕ
item_count (kinds.List n) = n
item_count other = 0

abbrev pub entry_count : kinds.the_data → ℕ
entry_count (kinds.Object n) = n
entry_count other = 0

pub items_counted : (f : Form) → item_count (kind f) ≡ length (items f)
items_counted null = refl
items_counted (bool b) = refl
items_counted (number (whole z) s) = refl
items_counted (number decimal s) = refl
items_counted (number wide s) = refl
items_counted (text t) = refl
items_counted (list ts) = count_items ts
items_counted (object ms) = refl

pub entries_counted : (f : Form) → entry_count (kind f) ≡ length (entries f)
entries_counted null = refl
entries_counted (bool b) = refl
entries_counted (number (whole z) s) = refl
entries_counted (number decimal s) = refl
entries_counted (number wide s) = refl
entries_counted (text t) = refl
entries_counted (list ts) = refl
entries_counted (object ms) = count_entries ms

tree_there : (ts : Trees) (i : ℕ) → slice_get (items_of ts) i ≡ tree_at ts i
tree_there no_trees i = refl
tree_there (tree t ts) zero = refl
tree_there (tree t ts) (suc i) = tree_there ts i

pair_there : (ms : Members) (i : ℕ) → slice_get (entries_of ms) i ≡ pair_at ms i
pair_there no_members i = refl
pair_there (member x t ms) zero = refl
pair_there (member x t ms) (suc i) = pair_there ms i

pub item_there : (f : Form) (i : ℕ) → slice_get (items f) i ≡ item_at f i
item_there null i = refl
item_there (bool b) i = refl
item_there (number k s) i = refl
item_there (text x) i = refl
item_there (list ts) i = tree_there ts i
item_there (object ms) i = refl

pub entry_there : (f : Form) (i : ℕ) → slice_get (entries f) i ≡ entry_at f i
entry_there null i = refl
entry_there (bool b) i = refl
entry_there (number k s) i = refl
entry_there (text x) i = refl
entry_there (list ts) i = refl
entry_there (object ms) i = pair_there ms i

-- what is left of a list from one place on
pub next_there : {A : Type 0} (xs : List A) (i : ℕ) (x : A) → slice_get xs i ≡ Some x → drop i xs ≡ x ∷ drop (i + 1) xs
next_there [] i x e = absurd (cc)
next_there (y ∷ ys) zero x e = let same : y ≡ x = cc in ap (λ z. z ∷ ys) same
next_there (y ∷ ys) (suc i) x e = next_there ys i x e ∙ ap (λ j. x ∷ drop j (y ∷ ys)) (more i)
  where
    more : (i : ℕ) → suc (i + 1) ≡ suc i + 1
    more i = omega arith

pub none_there : {A : Type 0} (xs : List A) (i : ℕ) → i < length xs → slice_get xs i ≡ None → ⊥
none_there [] i less e = omega (arith, less)
none_there (y ∷ ys) zero less e = cc
none_there (y ∷ ys) (suc i) less e = none_there ys i (omega (arith, less)) e

-- the first fault from one place on
pub fault_next : {A : Type 0} (fault : A → Option ℕ) (xs : List A) (i : ℕ) → i < length xs → first_of fault (drop i xs) ≡ or_else (at_place fault xs i) (first_of fault (drop (i + 1) xs))
fault_next {A = A} fault xs i less = by_item (slice_get xs i) refl
  where
    by_item : (o : Option A) → slice_get xs i ≡ o → first_of fault (drop i xs) ≡ or_else (fault_there fault (slice_get xs i)) (first_of fault (drop (i + 1) xs))
    by_item None e = absurd (none_there xs i less e)
    by_item (Some x) e = ap (first_of fault) (next_there xs i x e) ∙ ap (λ o. or_else (fault_there fault o) (first_of fault (drop (i + 1) xs))) (sym e)

-- a fault at this place is the first, where there is none before
pub fault_found : {A : Type 0} (fault : A → Option ℕ) (xs : List A) (i at : ℕ) → i < length xs → Some at ≡ at_place fault xs i → first_of fault (drop i xs) ≡ first_of fault xs → Some at ≡ first_of fault xs
fault_found fault xs i at less e so_far = ap (λ o. or_else o (first_of fault (drop (i + 1) xs))) e ∙ sym (fault_next fault xs i less) ∙ so_far

-- and where there is none at it either, there is none up to the next
pub fault_passed : {A : Type 0} (fault : A → Option ℕ) (xs : List A) (i : ℕ) → i < length xs → None ≡ at_place fault xs i → first_of fault (drop i xs) ≡ first_of fault xs → first_of fault (drop (i + 1) xs) ≡ first_of fault xs
fault_passed fault xs i less e so_far = ap (λ o. or_else o (first_of fault (drop (i + 1) xs))) e ∙ sym (fault_next fault xs i less) ∙ so_far

-- one more was added to those before it
pub one_more : {A B : Type 0} (f : A → B) (xs : List A) (found : List B) (i : ℕ) (x : A) → slice_get xs i ≡ Some x → (found ++ f x ∷ []) ++ map f (drop (i + 1) xs) ≡ found ++ map f (drop i xs)
one_more f xs found i x e = append_assoc found (f x ∷ []) (map f (drop (i + 1) xs)) ∙ ap (λ ys. found ++ map f ys) (sym (next_there xs i x e))

-- all were added
pub all_there : {A B : Type 0} (f : A → B) (xs : List A) (found : List B) (i : ℕ) → length xs ≤ i → found ++ map f (drop i xs) ≡ map f xs → found ≡ map f xs
all_there f xs found i le e = sym (append-nil found) ∙ ap (λ ys. found ++ map f ys) (sym (drop_all i xs le)) ∙ e
