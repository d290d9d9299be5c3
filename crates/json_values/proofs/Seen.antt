-- What a part of a document is, by its kind.
use Rattle.std.proofs.Common.{◌≡◌, ℕ, zero, suc, ◌+◌, ◌<◌, ◌≤◌, ℤ, Bool, List, [], ◌∷◌, ◌++◌, length, take, Option, Some, None, refl, sym, ◌∙◌, ap, arith}
use Rattle.std.specs.Prelude.{slice_get, slice_range}
use Rattle.json_subset.specs.Tree.{Tree, node, Form, null, bool, number, text, list, object, Trees, no_trees, tree, Members, no_members, member, trees_of, members_of, whole, decimal, wide}
use Rattle.json_subset.specs.Grammar.{depth, form_depth, trees_depth, members_depth}
use Rattle.json_subset.specs.Documents.{Document, part, form, span, kind, count, count_members, tree_at, pair_at, item_at, entry_at, decoded}
use Rattle.json_subset.specs.Nodes as nodes
use Rattle.json_subset.specs.Nodes.{tree_within}
use Rattle.json_subset.specs.declared.node.Node.{Node}
use Rattle.json_subset.specs.declared.node.Form.{Form as NodeForm}
use Rattle.json_subset.specs.declared.node.Form.TheVariants as node_forms
use Rattle.json_subset.specs.declared.doc.Kind.TheVariants as kinds
use Rattle.json_values.specs.Parts.{trees_in, members_in, items_of, entries_of}

-- a number's text is its span
IsSourced : List ℕ → Tree → Type 0
IsSourced s (node first past (number x t)) = t ≡ slice_range s first past
IsSourced s (node first past f) = Unit {0}

sourced_form : (s : List ℕ) (f : ℕ → Tree) (first past : ℕ) (x : NodeForm) → IsSourced s (node first past (nodes.form_of (slice_range s first past) f x))
unfolding IsSourced
sourced_form s f first past node_forms.Null = tt
sourced_form s f first past (node_forms.Bool b) = tt
sourced_form s f first past (node_forms.Number x) = refl
sourced_form s f first past (node_forms.Text t) = tt
sourced_form s f first past (node_forms.List ids) = tt
sourced_form s f first past (node_forms.Object ms) = tt

sourced_there : (s : List ℕ) (f : ℕ → Tree) (o : Option Node) → IsSourced s (nodes.there s f o)
unfolding IsSourced
sourced_there s f None = tt
sourced_there s f (Some x) = sourced_form s f x.first x.past x.form

sourced : (d : Document) (k : ℕ) → IsSourced d.text (part d k)
unfolding tree_within
sourced d k = sourced_there d.text (tree_within k d.text d.nodes) (slice_get d.nodes k)

whole_tree : (s : List ℕ) (t : Tree) (z : ℤ) → IsSourced s t → kind (form t) ≡ kinds.Whole z → form t ≡ number (whole z) (span s t)
unfolding IsSourced
whole_tree s (node a b null) z h e = cc
whole_tree s (node a b (bool x)) z h e = cc
whole_tree s (node a b (number (whole y) x)) z h e = let same : y ≡ z = cc in cc
whole_tree s (node a b (number decimal x)) z h e = cc
whole_tree s (node a b (number wide x)) z h e = cc
whole_tree s (node a b (text x)) z h e = cc
whole_tree s (node a b (list x)) z h e = cc
whole_tree s (node a b (object x)) z h e = cc

pub whole_part : (d : Document) (k : ℕ) (z : ℤ) → kind (form (part d k)) ≡ kinds.Whole z → form (part d k) ≡ number (whole z) (span d.text (part d k))
whole_part d k z e = whole_tree d.text (part d k) z (sourced d k) e

decimal_tree : (s : List ℕ) (t : Tree) → IsSourced s t → kind (form t) ≡ kinds.Decimal → form t ≡ number decimal (span s t)
unfolding IsSourced
decimal_tree s (node a b null) h e = cc
decimal_tree s (node a b (bool x)) h e = cc
decimal_tree s (node a b (number (whole y) x)) h e = cc
decimal_tree s (node a b (number decimal x)) h e = cc
decimal_tree s (node a b (number wide x)) h e = cc
decimal_tree s (node a b (text x)) h e = cc
decimal_tree s (node a b (list x)) h e = cc
decimal_tree s (node a b (object x)) h e = cc

pub decimal_part : (d : Document) (k : ℕ) → kind (form (part d k)) ≡ kinds.Decimal → form (part d k) ≡ number decimal (span d.text (part d k))
decimal_part d k e = decimal_tree d.text (part d k) (sourced d k) e

wide_tree : (s : List ℕ) (t : Tree) → IsSourced s t → kind (form t) ≡ kinds.Wide → form t ≡ number wide (span s t)
unfolding IsSourced
wide_tree s (node a b null) h e = cc
wide_tree s (node a b (bool x)) h e = cc
wide_tree s (node a b (number (whole y) x)) h e = cc
wide_tree s (node a b (number decimal x)) h e = cc
wide_tree s (node a b (number wide x)) h e = cc
wide_tree s (node a b (text x)) h e = cc
wide_tree s (node a b (list x)) h e = cc
wide_tree s (node a b (object x)) h e = cc

pub wide_part : (d : Document) (k : ℕ) → kind (form (part d k)) ≡ kinds.Wide → form (part d k) ≡ number wide (span d.text (part d k))
wide_part d k e = wide_tree d.text (part d k) (sourced d k) e

pub null_form : (f : Form) → kind f ≡ kinds.Null → f ≡ null
null_form null e = refl
null_form (bool x) e = cc
null_form (number (whole y) x) e = cc
null_form (number decimal x) e = cc
null_form (number wide x) e = cc
null_form (text x) e = cc
null_form (list x) e = cc
null_form (object x) e = cc

pub bool_form : (f : Form) (b : Bool) → kind f ≡ kinds.Bool b → f ≡ bool b
bool_form null b e = cc
bool_form (bool x) b e = let same : x ≡ b = cc in ap bool same
bool_form (number (whole y) x) b e = cc
bool_form (number decimal x) b e = cc
bool_form (number wide x) b e = cc
bool_form (text x) b e = cc
bool_form (list x) b e = cc
bool_form (object x) b e = cc

pub text_form : (f : Form) (t : List ℕ) → decoded f ≡ Some t → f ≡ text t
text_form null t e = cc
text_form (bool x) t e = cc
text_form (number y x) t e = cc
text_form (text x) t e = let same : x ≡ t = cc in ap text same
text_form (list x) t e = cc
text_form (object x) t e = cc

pub text_decoded : (f : Form) → kind f ≡ kinds.Text → decoded f ≡ None → ⊥
text_decoded null e h = cc
text_decoded (bool x) e h = cc
text_decoded (number (whole y) x) e h = cc
text_decoded (number decimal x) e h = cc
text_decoded (number wide x) e h = cc
text_decoded (text x) e h = cc
text_decoded (list x) e h = cc
text_decoded (object x) e h = cc

-- lists
trees_back : (ts : Trees) → trees_of (trees_in ts) ≡ ts
trees_back no_trees = refl
trees_back (tree t ts) = ap (tree t) (trees_back ts)

members_back : (ms : Members) → members_of (members_in ms) ≡ ms
members_back no_members = refl
members_back (member x t ms) = ap (member x t) (members_back ms)

trees_length : (ts : Trees) → length (trees_in ts) ≡ count ts
trees_length no_trees = refl
trees_length (tree t ts) = ap suc (trees_length ts)

members_length : (ms : Members) → length (members_in ms) ≡ count_members ms
members_length no_members = refl
members_length (member x t ms) = ap suc (members_length ms)

pub list_form : (f : Form) (n : ℕ) → kind f ≡ kinds.List n → (f ≡ list (trees_of (items_of f))) × (n ≡ length (items_of f))
list_form null n e = cc
list_form (bool x) n e = cc
list_form (number (whole y) x) n e = cc
list_form (number decimal x) n e = cc
list_form (number wide x) n e = cc
list_form (text x) n e = cc
list_form (list ts) n e = (ap list (sym (trees_back ts)), let same : count ts ≡ n = cc in sym same ∙ sym (trees_length ts))
list_form (object x) n e = cc

pub object_form : (f : Form) (n : ℕ) → kind f ≡ kinds.Object n → (f ≡ object (members_of (entries_of f))) × (n ≡ length (entries_of f))
object_form null n e = cc
object_form (bool x) n e = cc
object_form (number (whole y) x) n e = cc
object_form (number decimal x) n e = cc
object_form (number wide x) n e = cc
object_form (text x) n e = cc
object_form (list x) n e = cc
object_form (object ms) n e = (ap object (sym (members_back ms)), let same : count_members ms ≡ n = cc in sym same ∙ sym (members_length ms))

trees_take : (ts : Trees) (i : ℕ) (u : Tree) → tree_at ts i ≡ Some u → take (suc i) (trees_in ts) ≡ take i (trees_in ts) ++ u ∷ []
trees_take no_trees i u e = cc
trees_take (tree t ts) zero u e = let same : t ≡ u = cc in ap (λ z. z ∷ []) same
trees_take (tree t ts) (suc i) u e = ap (λ z. t ∷ z) (trees_take ts i u e)

members_take : (ms : Members) (i : ℕ) (u : List ℕ × Tree) → pair_at ms i ≡ Some u → take (suc i) (members_in ms) ≡ take i (members_in ms) ++ u ∷ []
members_take no_members i u e = cc
members_take (member x t ms) zero u e = let same : (x, t) ≡ u = cc in ap (λ z. z ∷ []) same
members_take (member x t ms) (suc i) u e = ap (λ z. (x, t) ∷ z) (members_take ms i u e)

pub items_take : (f : Form) (i : ℕ) (u : Tree) → item_at f i ≡ Some u → take (i + 1) (items_of f) ≡ take i (items_of f) ++ u ∷ []
items_take null i u e = cc
items_take (bool x) i u e = cc
items_take (number y x) i u e = cc
items_take (text x) i u e = cc
items_take (list ts) i u e = let one : i + 1 ≡ suc i = omega arith in ap (λ n. take n (trees_in ts)) one ∙ trees_take ts i u e
items_take (object x) i u e = cc

pub entries_take : (f : Form) (i : ℕ) (u : List ℕ × Tree) → entry_at f i ≡ Some u → take (i + 1) (entries_of f) ≡ take i (entries_of f) ++ u ∷ []
entries_take null i u e = cc
entries_take (bool x) i u e = cc
entries_take (number y x) i u e = cc
entries_take (text x) i u e = cc
entries_take (list ts) i u e = cc
entries_take (object ms) i u e = let one : i + 1 ≡ suc i = omega arith in ap (λ n. take n (members_in ms)) one ∙ members_take ms i u e

trees_some : (ts : Trees) (i : ℕ) → i < length (trees_in ts) → tree_at ts i ≡ None → ⊥
trees_some no_trees i h e = absurd (omega (arith, h))
trees_some (tree t ts) zero h e = cc
trees_some (tree t ts) (suc i) h e = trees_some ts i (omega (arith, h)) e

members_some : (ms : Members) (i : ℕ) → i < length (members_in ms) → pair_at ms i ≡ None → ⊥
members_some no_members i h e = absurd (omega (arith, h))
members_some (member x t ms) zero h e = cc
members_some (member x t ms) (suc i) h e = members_some ms i (omega (arith, h)) e

pub item_stands : (f : Form) (i : ℕ) → i < length (items_of f) → item_at f i ≡ None → ⊥
item_stands null i h e = absurd (omega (arith, h))
item_stands (bool x) i h e = absurd (omega (arith, h))
item_stands (number y x) i h e = absurd (omega (arith, h))
item_stands (text x) i h e = absurd (omega (arith, h))
item_stands (list ts) i h e = trees_some ts i h e
item_stands (object x) i h e = absurd (omega (arith, h))

pub entry_stands : (f : Form) (i : ℕ) → i < length (entries_of f) → entry_at f i ≡ None → ⊥
entry_stands null i h e = absurd (omega (arith, h))
entry_stands (bool x) i h e = absurd (omega (arith, h))
entry_stands (number y x) i h e = absurd (omega (arith, h))
entry_stands (text x) i h e = absurd (omega (arith, h))
entry_stands (list ts) i h e = absurd (omega (arith, h))
entry_stands (object ms) i h e = members_some ms i h e

-- parts are less deep
trees_less : (ts : Trees) (i : ℕ) (u : Tree) → tree_at ts i ≡ Some u → depth u ≤ trees_depth ts
trees_less no_trees i u e = cc
trees_less (tree t ts) zero u e = let same : t ≡ u = cc in let d = ap depth same in omega (arith, d)
trees_less (tree t ts) (suc i) u e = let h = trees_less ts i u e in omega (arith, h)

members_less : (ms : Members) (i : ℕ) (u : List ℕ × Tree) → pair_at ms i ≡ Some u → depth u.1 ≤ members_depth ms
members_less no_members i u e = cc
members_less (member x t ms) zero u e = let same : (x, t) ≡ u = cc in let d = ap (λ (z : List ℕ × Tree). depth z.1) same in omega (arith, d)
members_less (member x t ms) (suc i) u e = let h = members_less ms i u e in omega (arith, h)

item_form_less : (f : Form) (i : ℕ) (u : Tree) → item_at f i ≡ Some u → depth u < form_depth f
item_form_less null i u e = cc
item_form_less (bool x) i u e = cc
item_form_less (number y x) i u e = cc
item_form_less (text x) i u e = cc
item_form_less (list ts) i u e = let h = trees_less ts i u e in omega (arith, h)
item_form_less (object x) i u e = cc

entry_form_less : (f : Form) (i : ℕ) (u : List ℕ × Tree) → entry_at f i ≡ Some u → depth u.1 < form_depth f
entry_form_less null i u e = cc
entry_form_less (bool x) i u e = cc
entry_form_less (number y x) i u e = cc
entry_form_less (text x) i u e = cc
entry_form_less (list ts) i u e = cc
entry_form_less (object ms) i u e = let h = members_less ms i u e in omega (arith, h)

depth_form : (t : Tree) → depth t ≡ form_depth (form t)
depth_form (node a b f) = refl

pub item_less : (t : Tree) (i : ℕ) (u : Tree) → item_at (form t) i ≡ Some u → depth u < depth t
item_less t i u e = let h = item_form_less (form t) i u e in omega (arith, h, depth_form t)

pub entry_less : (t : Tree) (i : ℕ) (u : List ℕ × Tree) → entry_at (form t) i ≡ Some u → depth u.1 < depth t
entry_less t i u e = let h = entry_form_less (form t) i u e in omega (arith, h, depth_form t)
