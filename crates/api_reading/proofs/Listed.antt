-- The items of a list, and the members of an object, from one place on.
use Rattle.std.proofs.Common.{◌≡◌, ℕ, zero, suc, ◌+◌, ◌<◌, List, [], ◌∷◌, length, drop, Option, Some, None, refl, ap, ◌∙◌, sym, arith}
use Rattle.json_subset.specs.Tree.{Tree, Form, null, bool, number, text, list, object, Trees, no_trees, tree, Members, no_members, member, whole, decimal, wide}
use Rattle.json_subset.specs.Documents.{count, count_members, tree_at, pair_at, item_at, entry_at, kind}
use Rattle.json_subset.specs.declared.doc.Kind.TheVariants as kinds
use Rattle.json_values.proofs.Seen.{list_form, object_form}
use Rattle.json_values.specs.Parts.{trees_in, members_in, items_of, entries_of}

pub entries_counted : (f : Form) (n : ℕ) → kinds.Object n ≡ kind f → n ≡ length (entries_of f)
entries_counted f n e = (object_form f n (sym e)).1

pub items_counted : (f : Form) (n : ℕ) → kinds.List n ≡ kind f → n ≡ length (items_of f)
items_counted f n e = (list_form f n (sym e)).1

-- how many members a value has, by its kind
abbrev entry_total : kinds.the_data → ℕ
entry_total (kinds.Object n) = n
entry_total other = 0

counted : (ms : Members) → count_members ms ≡ length (members_in ms)
counted no_members = refl
counted (member x t ms) = ap suc (counted ms)

entries_total : (f : Form) → entry_total (kind f) ≡ length (entries_of f)
entries_total null = refl
entries_total (bool b) = refl
entries_total (number (whole z) s) = refl
entries_total (number decimal s) = refl
entries_total (number wide s) = refl
entries_total (text t) = refl
entries_total (list ts) = refl
entries_total (object ms) = counted ms

-- a value of another kind has none
pub no_entries : (f : Form) (k : kinds.the_data) → k ≡ kind f → entry_total k ≡ 0 → 0 ≡ length (entries_of f)
no_entries f k e h = sym h ∙ ap entry_total e ∙ entries_total f

one_more : (i : ℕ) → suc i ≡ i + 1
one_more i = omega arith

trees_rest : (ts : Trees) (i : ℕ) (u : Tree) → tree_at ts i ≡ Some u → drop i (trees_in ts) ≡ u ∷ drop (suc i) (trees_in ts)
trees_rest no_trees i u e = cc
trees_rest (tree t ts) zero u e = let same : t ≡ u = cc in ap (λ z. z ∷ trees_in ts) same
trees_rest (tree t ts) (suc i) u e = trees_rest ts i u e

members_rest : (ms : Members) (i : ℕ) (u : List ℕ × Tree) → pair_at ms i ≡ Some u → drop i (members_in ms) ≡ u ∷ drop (suc i) (members_in ms)
members_rest no_members i u e = cc
members_rest (member x t ms) zero u e = let same : (x, t) ≡ u = cc in ap (λ (z : List ℕ × Tree). z ∷ members_in ms) same
members_rest (member x t ms) (suc i) u e = members_rest ms i u e

pub item_rest : (f : Form) (i : ℕ) (u : Tree) → item_at f i ≡ Some u → drop i (items_of f) ≡ u ∷ drop (i + 1) (items_of f)
item_rest null i u e = cc
item_rest (bool b) i u e = cc
item_rest (number x s) i u e = cc
item_rest (text t) i u e = cc
item_rest (list ts) i u e = trees_rest ts i u e ∙ ap (λ n. u ∷ drop n (trees_in ts)) (one_more i)
item_rest (object ms) i u e = cc

pub entry_rest : (f : Form) (i : ℕ) (u : List ℕ × Tree) → entry_at f i ≡ Some u → drop i (entries_of f) ≡ u ∷ drop (i + 1) (entries_of f)
entry_rest null i u e = cc
entry_rest (bool b) i u e = cc
entry_rest (number x s) i u e = cc
entry_rest (text t) i u e = cc
entry_rest (list ts) i u e = cc
entry_rest (object ms) i u e = members_rest ms i u e ∙ ap (λ n. u ∷ drop n (members_in ms)) (one_more i)
