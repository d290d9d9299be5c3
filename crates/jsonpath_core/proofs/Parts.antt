-- The nodes that a path selects are parts of the tree.
use Rattle.std.proofs.Common.{◌≡◌, ℕ, zero, suc, ◌<◌, List, [], ◌∷◌, ◌++◌, length, map, get_or, Option, Some, None, Result, Ok, Err, refl, ap, ◌∙◌, sym, subst, arith, option_to_list}
use Rattle.std.specs.List.{AllByRecursion}
use Rattle.std.specs.Prelude.{All, IfOk, IfSome, MatchOption, Vec}
use Rattle.std.specs.declared.alloc.Global.{Global}
use Rattle.json_subset.specs.Tree.{Tree, node, Form, null, bool, number, text, list, object, Trees, no_trees, tree, Members, no_members, member}
use Rattle.json_subset.specs.Documents.{form, item_at, entry_at, tree_at, pair_at, first_named, member_named, Document, IsPart, part, root_tree, IsWithin, itself, item_within, entry_within, member_within}
use Rattle.jsonpath_core.specs.Steps.{Step, name, index, star}
use Rattle.jsonpath_core.specs.Selecting.{items, values, selected, selected_of_each, select_from, select}

-- nodes within this one
abbrev pub AreWithin : Tree → List Tree → Type 0
AreWithin root ts = AllByRecursion (λ t. IsWithin t root) ts

append_within : (root : Tree) (ts us : List Tree) → AreWithin root ts → AreWithin root us → AreWithin root (ts ++ us)
append_within root [] us h k = k
append_within root (t ∷ ts) us h k = (h.0, append_within root ts us h.1 k)

maybe_within : (root : Tree) (o : Option Tree) → ((u : Tree) → o ≡ Some u → IsWithin u root) → AreWithin root (option_to_list o)
maybe_within root None h = tt
maybe_within root (Some u) h = (h u refl, tt)

each_item : (root : Tree) (ts : Trees) → ((i : ℕ) (u : Tree) → tree_at ts i ≡ Some u → IsWithin u root) → AreWithin root (items ts)
each_item root no_trees h = tt
each_item root (tree t ts) h = (h 0 t refl, each_item root ts (λ i. h (suc i)))

each_value : (root : Tree) (ms : Members) → ((i : ℕ) (x : List ℕ) (u : Tree) → pair_at ms i ≡ Some (x, u) → IsWithin u root) → AreWithin root (values ms)
each_value root no_members h = tt
each_value root (member x t ms) h = (h 0 x t refl, each_value root ms (λ i. h (suc i)))

-- what a step selects of a part are parts
by_form : (s : Step) (root t : Tree) (f : Form) → form t ≡ f → IsWithin t root → AreWithin root (selected s (node 0 0 f))
by_form (name q) root t null e w = tt
by_form (name q) root t (bool b) e w = tt
by_form (name q) root t (number k s) e w = tt
by_form (name q) root t (text x) e w = tt
by_form (name q) root t (list ts) e w = tt
by_form (name q) root t (object ms) e w = maybe_within root (first_named ms q) (λ u h. member_within u t root q w (ap (λ f. member_named f q) e ∙ h))
by_form (index i) root t null e w = tt
by_form (index i) root t (bool b) e w = tt
by_form (index i) root t (number k s) e w = tt
by_form (index i) root t (text x) e w = tt
by_form (index i) root t (list ts) e w = maybe_within root (tree_at ts i) (λ u h. item_within u t root i w (ap (λ f. item_at f i) e ∙ h))
by_form (index i) root t (object ms) e w = tt
by_form star root t null e w = tt
by_form star root t (bool b) e w = tt
by_form star root t (number k s) e w = tt
by_form star root t (text x) e w = tt
by_form star root t (list ts) e w = each_item root ts (λ i u h. item_within u t root i w (ap (λ f. item_at f i) e ∙ h))
by_form star root t (object ms) e w = each_value root ms (λ i x u h. entry_within u t root i x w (ap (λ f. entry_at f i) e ∙ h))

by_node : (s : Step) (root t : Tree) → IsWithin t root → AreWithin root (selected s t)
by_node (name q) root (node first past f) w = by_form (name q) root (node first past f) f refl w
by_node (index i) root (node first past f) w = by_form (index i) root (node first past f) f refl w
by_node star root (node first past f) w = by_form star root (node first past f) f refl w

each_within : (s : Step) (root : Tree) (ts : List Tree) → AreWithin root ts → AreWithin root (selected_of_each s ts)
each_within s root [] h = tt
each_within s root (t ∷ ts) h = append_within root (selected s t) (selected_of_each s ts) (by_node s root t h.0) (each_within s root ts h.1)

all_within : (steps : List Step) (root : Tree) (ts : List Tree) → AreWithin root ts → AreWithin root (select_from steps ts)
all_within [] root ts h = h
all_within (s ∷ steps) root ts h = all_within steps root (selected_of_each s ts) (each_within s root ts h)

pub selects_parts : (steps : List Step) (root : Tree) → AreWithin root (select steps root)
selects_parts steps root = all_within steps root (root ∷ []) (itself root, tt)

at_each : (root : Tree) (f : ℕ → Tree) (xs : List ℕ) → AreWithin root (map f xs) → (k d : ℕ) → k < length xs → IsWithin (f (get_or xs k d)) root
at_each root f [] h k d less = absurd (omega (arith, less))
at_each root f (x ∷ xs) h zero d less = h.0
at_each root f (x ∷ xs) h (suc k) d less = at_each root f xs h.1 k d (omega (arith, less))

-- and so are the nodes that were found
pub found_within : (steps : List Step) (root : Tree) (f : ℕ → Tree) (xs : List ℕ) → map f xs ≡ select steps root → All (λ x. IsWithin (f x) root) xs
found_within steps root f xs e = at_each root f xs (subst (AreWithin root) (sym e) (selects_parts steps root))

pub one_within : (steps : List Step) (root t : Tree) → select steps root ≡ t ∷ [] → IsWithin t root
one_within steps root t e = let h : AreWithin root (t ∷ []) = subst (AreWithin root) e (selects_parts steps root) in h.0

pub if_one : (steps : List Step) (d : Document) (r : Option ℕ) → MatchOption r (select steps (root_tree d) ≡ []) (λ k. IsPart d k × (select steps (root_tree d) ≡ part d k ∷ [])) → IfSome r (λ k. IsWithin (part d k) (root_tree d))
if_one steps d None h = tt
if_one steps d (Some k) h = one_within steps (root_tree d) (part d k) h.1

pub if_found : {E : Type 0} (steps : List Step) (d : Document) (r : Result (Vec ℕ Global) E) → IfOk r (λ v. map (part d) v.items ≡ select steps (root_tree d)) → IfOk r (λ v. All (λ k. IsWithin (part d k) (root_tree d)) v.items)
if_found steps d (Ok v) h = found_within steps (root_tree d) (part d) v.items h
if_found steps d (Err e) h = tt
