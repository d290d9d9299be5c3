-- What is left of a list or an object behind some of its parts.
use Rattle.std.proofs.Common.{◌≡◌, ℕ, zero, suc, ◌+◌, List, Some, None, refl, sym, ◌∙◌, ap, arith, [], ◌∷◌, map, false, true}
use Rattle.json_values.specs.Parts.{trees_in, items_of}
use Rattle.json_subset.specs.Bare.{bare, bare_form, bare_trees}
use Rattle.json_values.specs.Values.{AreSound, Mirror, plain_of, source_of}
use Rattle.json_values.specs.declared.value.Value.{Value}
use Rattle.json_values.proofs.Plain.{source_plain}
use Rattle.schema_draft4.specs.Reading.{is_list, is_object, items_in, numbered_form}
use Rattle.json_subset.specs.Tree.{trees_of, node, Tree, Form, null, bool, number, text, list, object, Trees, no_trees, tree, Members, no_members, member, whole, decimal, wide}
use Rattle.json_subset.specs.Documents.{Document, part, form, kind, item_at, entry_at, tree_at, pair_at, count, count_members}
use Rattle.json_subset.specs.declared.doc.Kind.TheVariants as kinds
use Rattle.schema_draft4.specs.Faults.{trees_from, members_from, rest_items, rest_members}

trees_next : (ts : Trees) (i : ℕ) (u : Tree) → tree_at ts i ≡ Some u → trees_from ts i ≡ tree u (trees_from ts (suc i))
trees_next no_trees i u e = cc
trees_next (tree t ts) zero u e = let same : t ≡ u = cc in ap (λ z. tree z ts) same
trees_next (tree t ts) (suc i) u e = trees_next ts i u e

members_next : (ms : Members) (i : ℕ) (u : List ℕ × Tree) → pair_at ms i ≡ Some u → members_from ms i ≡ member u.0 u.1 (members_from ms (suc i))
members_next no_members i u e = cc
members_next (member x t ms) zero u e = let same : (x, t) ≡ u = cc in ap (λ (z : List ℕ × Tree). member z.0 z.1 ms) same
members_next (member x t ms) (suc i) u e = members_next ms i u e

one_more : (i : ℕ) → suc i ≡ i + 1
one_more i = omega arith

pub item_rest : (f : Form) (i : ℕ) (u : Tree) → item_at f i ≡ Some u → rest_items f i ≡ tree u (rest_items f (i + 1))
item_rest null i u e = cc
item_rest (bool b) i u e = cc
item_rest (number x s) i u e = cc
item_rest (text t) i u e = cc
item_rest (list ts) i u e = trees_next ts i u e ∙ ap (λ n. tree u (trees_from ts n)) (one_more i)
item_rest (object ms) i u e = cc

pub entry_rest : (f : Form) (i : ℕ) (u : List ℕ × Tree) → entry_at f i ≡ Some u → rest_members f i ≡ member u.0 u.1 (rest_members f (i + 1))
entry_rest null i u e = cc
entry_rest (bool b) i u e = cc
entry_rest (number x s) i u e = cc
entry_rest (text t) i u e = cc
entry_rest (list ts) i u e = cc
entry_rest (object ms) i u e = members_next ms i u e ∙ ap (λ n. member u.0 u.1 (members_from ms n)) (one_more i)

trees_end : (ts : Trees) → trees_from ts (count ts) ≡ no_trees
trees_end no_trees = refl
trees_end (tree t ts) = trees_end ts

members_end : (ms : Members) → members_from ms (count_members ms) ≡ no_members
members_end no_members = refl
members_end (member x t ms) = members_end ms

pub items_all : (f : Form) (n : ℕ) → kind f ≡ kinds.List n → (f ≡ list (rest_items f 0)) × (rest_items f n ≡ no_trees)
items_all null n e = cc
items_all (bool x) n e = cc
items_all (number (whole y) x) n e = cc
items_all (number decimal x) n e = cc
items_all (number wide x) n e = cc
items_all (text x) n e = cc
items_all (list ts) n e = (refl, let same : count ts ≡ n = cc in ap (trees_from ts) (sym same) ∙ trees_end ts)
items_all (object x) n e = cc

pub members_all : (f : Form) (n : ℕ) → kind f ≡ kinds.Object n → (f ≡ object (rest_members f 0)) × (rest_members f n ≡ no_members)
members_all null n e = cc
members_all (bool x) n e = cc
members_all (number (whole y) x) n e = cc
members_all (number decimal x) n e = cc
members_all (number wide x) n e = cc
members_all (text x) n e = cc
members_all (list x) n e = cc
members_all (object ms) n e = (refl, let same : count_members ms ≡ n = cc in ap (members_from ms) (sym same) ∙ members_end ms)

-- a value of another kind has no items
pub no_items : (f : Form) → is_list (kind f) ≡ false → items_in f ≡ None
no_items null e = refl
no_items (bool x) e = refl
no_items (number x s) e = refl
no_items (text x) e = refl
no_items (list ts) e = cc
no_items (object ms) e = refl

pub items_some : (f : Form) (n : ℕ) → kind f ≡ kinds.List n → items_in f ≡ Some (rest_items f 0)
items_some f n e = ap items_in (items_all f n e).0

-- the values of a list, read behind one another
trees_map : (f : ℕ → Tree) (ids : List ℕ) → trees_in (trees_of (map f ids)) ≡ map f ids
trees_map f [] = refl
trees_map f (k ∷ ids) = ap (λ z. f k ∷ z) (trees_map f ids)

plain_in : (ts : Trees) → trees_in (bare_trees ts) ≡ map bare (trees_in ts)
plain_in no_trees = refl
plain_in (tree t ts) = ap (λ z. bare t ∷ z) (plain_in ts)

form_trees : (f : Form) (n : ℕ) → kind f ≡ kinds.List n → items_of (bare_form f) ≡ map bare (trees_in (rest_items f 0))
form_trees null n e = cc
form_trees (bool x) n e = cc
form_trees (number (whole y) x) n e = cc
form_trees (number decimal x) n e = cc
form_trees (number wide x) n e = cc
form_trees (text x) n e = cc
form_trees (list ts) n e = plain_in ts
form_trees (object x) n e = cc

form_plain : (t : Tree) → form (bare t) ≡ bare_form (form t)
form_plain (node a b f) = refl

-- the listed values of a part that was read, without their places
pub listed_plain : (d : Document) (vs : List Value) (k j n : ℕ) (ids : List ℕ) → AreSound vs → Mirror d vs → source_of d vs k ≡ part d j → kind (form (part d j)) ≡ kinds.List n → form (plain_of vs k) ≡ list (trees_of (map (plain_of vs) ids)) → map (plain_of vs) ids ≡ map bare (trees_in (rest_items (form (part d j)) 0))
listed_plain d vs k j n ids sound mirror same is opened =
    sym (trees_map (plain_of vs) ids)
    ∙ sym (ap items_of opened)
    ∙ ap (λ t. items_of (form t)) (sym (source_plain d vs k sound mirror))
    ∙ ap items_of (form_plain (source_of d vs k))
    ∙ ap (λ t. items_of (bare_form (form t))) same
    ∙ form_trees (form (part d j)) n is

list_plain : (f : Form) (n : ℕ) → kind f ≡ kinds.List n → is_list (kind (bare_form f)) ≡ true
list_plain null n e = cc
list_plain (bool x) n e = cc
list_plain (number (whole y) x) n e = cc
list_plain (number decimal x) n e = cc
list_plain (number wide x) n e = cc
list_plain (text x) n e = cc
list_plain (list ts) n e = refl
list_plain (object x) n e = cc

pub listed_list : (d : Document) (vs : List Value) (k j n : ℕ) → AreSound vs → Mirror d vs → source_of d vs k ≡ part d j → kind (form (part d j)) ≡ kinds.List n → is_list (kind (form (plain_of vs k))) ≡ true
listed_list d vs k j n sound mirror same is =
    ap (λ t. is_list (kind (form t))) (sym (source_plain d vs k sound mirror))
    ∙ ap (λ f. is_list (kind f)) (form_plain (source_of d vs k))
    ∙ ap (λ t. is_list (kind (bare_form (form t)))) same
    ∙ list_plain (form (part d j)) n is

-- a value of another kind has no members
pub not_numbered : (f : Form) → is_object (kind f) ≡ false → numbered_form f ≡ []
not_numbered null e = refl
not_numbered (bool x) e = refl
not_numbered (number x s) e = refl
not_numbered (text x) e = refl
not_numbered (list ts) e = refl
not_numbered (object ms) e = cc
