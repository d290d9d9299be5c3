-- The trees of nodes, and what one more node keeps.
use Rattle.std.proofs.Common.{◌≡◌, ℕ, zero, suc, ◌+◌, ◌<◌, ◌≤◌, List, [], ◌∷◌, ◌++◌, length, map, Option, Some, None, refl, sym, ◌∙◌, ap, arith, ◌⊎◌, inl, inr, subst, unwrap_or, get_or}
use Rattle.std.specs.Prelude.{slice_get}
use Rattle.std.specs.List.{AllByRecursion}
use Rattle.std.proofs.lemmas.Option.{slice_get_within}
use Rattle.vtl_grammar.specs.Loops.{folded}
use Rattle.vtl_grammar.specs.Tree as tree
use Rattle.vtl_grammar.specs.Tree.{Expr, Item}
use Rattle.vtl_grammar.specs.Lists.{with_pair}
use Rattle.vtl_grammar.specs.Items.{with_items, with_branch}
use Rattle.vtl_words.specs.Views.{op_of}
use Rattle.vtl_reader.specs.Nodes.{exprs_made, step_made, steps_made, part_made, pair_made, chained, made, AllBelow, StepBelow, StepsBelow, PartBelow, PartsBelow, PairBelow, PairsBelow, LinksBelow, IsBelow, there, expr_within, expr_of, items_made, target_of, branch_made, item_made, BranchBelow, BranchesBelow, ItemIsBelow, item_there, item_within, Nodes, item_of, AreOrdered, Keeps}
use Rattle.vtl_reader.specs.declared.nodes.Link.{Link}
use Rattle.vtl_reader.specs.declared.nodes.Pair.{Pair}
use Rattle.vtl_reader.specs.declared.nodes.Branch.{Branch}
use Rattle.vtl_reader.specs.declared.nodes.Step.{Step}
use Rattle.vtl_reader.specs.declared.nodes.Step.TheVariants as steps
use Rattle.vtl_reader.specs.declared.nodes.Part.{Part}
use Rattle.vtl_reader.specs.declared.nodes.Part.TheVariants as parts
use Rattle.vtl_reader.specs.declared.nodes.ExprNode.{ExprNode}
use Rattle.vtl_reader.specs.declared.nodes.ExprNode.TheVariants as exprs
use Rattle.vtl_reader.specs.declared.nodes.ItemNode.{ItemNode}
use Rattle.vtl_reader.specs.declared.nodes.ItemNode.TheVariants as items

-- lists

pub mapped_alike : {A B : Type 0} (f g : A → B) (P : A → Type 0) (xs : List A) → ((x : A) → P x → f x ≡ g x) → AllByRecursion P xs → map f xs ≡ map g xs
mapped_alike f g P [] same below = refl
mapped_alike f g P (x ∷ xs) same below = ap (λ z. z ∷ map f xs) (same x below.0) ∙ ap (λ z. g x ∷ z) (mapped_alike f g P xs same below.1)

pub all_more : {A : Type 0} (P Q : A → Type 0) (xs : List A) → ((x : A) → P x → Q x) → AllByRecursion P xs → AllByRecursion Q xs
all_more P Q [] more h = tt
all_more P Q (x ∷ xs) more h = (more x h.0, all_more P Q xs more h.1)

pub all_push : {A : Type 0} (P : A → Type 0) (xs : List A) (x : A) → AllByRecursion P xs → P x → AllByRecursion P (xs ++ x ∷ [])
all_push P [] x h i = (i, tt)
all_push P (y ∷ xs) x h i = (h.0, all_push P xs x h.1 i)

pub map_push : {A B : Type 0} (f : A → B) (xs : List A) (x : A) → map f (xs ++ x ∷ []) ≡ map f xs ++ f x ∷ []
map_push f [] x = refl
map_push f (y ∷ xs) x = ap (λ z. f y ∷ z) (map_push f xs x)

get_front : {A : Type 0} (xs : List A) (y : A) (j : ℕ) → j < length xs → slice_get (xs ++ y ∷ []) j ≡ slice_get xs j
get_front [] y j h = absurd (omega (arith, h))
get_front (x ∷ xs) y zero h = refl
get_front (x ∷ xs) y (suc j) h = get_front xs y j (omega (arith, h))

get_last : {A : Type 0} (xs : List A) (y : A) → slice_get (xs ++ y ∷ []) (length xs) ≡ Some y
get_last [] y = refl
get_last (x ∷ xs) y = get_last xs y

split : (k n : ℕ) → k < n + 1 → (k < n) ⊎ (k ≡ n)
split zero zero h = inr refl
split zero (suc n) h = inl (omega arith)
split (suc k) zero h = absurd (omega (arith, h))
split (suc k) (suc n) h = up (split k n (omega (arith, h)))
  where
    up : (k < n) ⊎ (k ≡ n) → (suc k < suc n) ⊎ (suc k ≡ suc n)
    up (inl h) = inl (omega (arith, h))
    up (inr e) = inr (ap suc e)

pub length_push : {A : Type 0} (xs : List A) (y : A) → length (xs ++ y ∷ []) ≡ length xs + 1
length_push [] y = refl
length_push (x ∷ xs) y = let e = length_push xs y in omega (arith, e)

some_inj : {A : Type 0} (x y : A) → Some x ≡ Some y → x ≡ y
some_inj {A = A} x y e = let out : Option A → A = λ o. unwrap_or o x in ap out e

agree_front : {A : Type 0} (ns : List A) (x : A) (k : ℕ) → k < length ns → (j : ℕ) → j ≤ k → slice_get ns j ≡ slice_get (ns ++ x ∷ []) j
agree_front ns x k h j le = sym (get_front ns x j (omega (arith, h, le)))

-- more stand before a greater number

pub ids_more : (m n : ℕ) (ids : List ℕ) → m ≤ n → AllBelow m ids → AllBelow n ids
ids_more m n ids le h = all_more (λ k. k < m) (λ k. k < n) ids (λ k i. omega (arith, le, i)) h

pub step_more : (m n : ℕ) (x : Step) → m ≤ n → StepBelow m x → StepBelow n x
step_more m n (steps.Member x) le h = tt
step_more m n (steps.Call x ids) le h = ids_more m n ids.items le h
step_more m n (steps.Index k) le h = omega (arith, le, h)

pub steps_more : (m n : ℕ) (xs : List Step) → m ≤ n → StepsBelow m xs → StepsBelow n xs
steps_more m n xs le h = all_more (StepBelow m) (StepBelow n) xs (λ x i. step_more m n x le i) h

pub part_more : (m n : ℕ) (x : Part) → m ≤ n → PartBelow m x → PartBelow n x
part_more m n (parts.Bytes t) le h = tt
part_more m n (parts.Printed source x ss) le h = steps_more m n ss.items le h

pub parts_more : (m n : ℕ) (xs : List Part) → m ≤ n → PartsBelow m xs → PartsBelow n xs
parts_more m n xs le h = all_more (PartBelow m) (PartBelow n) xs (λ x i. part_more m n x le i) h

pub pairs_more : (m n : ℕ) (xs : List Pair) → m ≤ n → PairsBelow m xs → PairsBelow n xs
pairs_more m n xs le h = all_more (PairBelow m) (PairBelow n) xs (λ x i. (omega (arith, le, i.0), omega (arith, le, i.1))) h

pub links_more : (m n : ℕ) (xs : List Link) → m ≤ n → LinksBelow m xs → LinksBelow n xs
links_more m n xs le h = all_more (λ l. l.operand < m) (λ l. l.operand < n) xs (λ x i. omega (arith, le, i)) h

pub branches_more : (m n j k : ℕ) (xs : List Branch) → m ≤ n → j ≤ k → BranchesBelow m j xs → BranchesBelow n k xs
branches_more m n j k xs le more h = all_more (BranchBelow m j) (BranchBelow n k) xs (λ x i. (omega (arith, le, i.0), ids_more j k x.items.items more i.1)) h

item_more : (m n k : ℕ) (x : ItemNode) → m ≤ n → ItemIsBelow m k x → ItemIsBelow n k x
item_more m n k (items.Text t) le h = tt
item_more m n k items.Comment le h = tt
item_more m n k (items.Output source x ss) le h = steps_more m n ss.items le h
item_more m n k (items.Set target j) le h = omega (arith, le, h)
item_more m n k (items.If bs is) le h = (branches_more m n k k bs.items le (omega arith) h.0, h.1)
item_more m n k (items.ForEach x j is) le h = (omega (arith, le, h.0), h.1)
item_more m n k items.Break le h = tt
item_more m n k items.Stop le h = tt
item_more m n k (items.Define x ps is) le h = h
item_more m n k (items.MacroCall at x ids) le h = ids_more m n ids.items le h

-- trees that agree on what stands before n

module _ (f g : ℕ → Expr) (n : ℕ) (same : (k : ℕ) → k < n → f k ≡ g k) where
  pub ids_alike : (ids : List ℕ) → AllBelow n ids → map f ids ≡ map g ids
  ids_alike ids h = mapped_alike f g (λ k. k < n) ids same h

  pub exprs_alike : (ids : List ℕ) → AllBelow n ids → exprs_made f ids ≡ exprs_made g ids
  exprs_alike ids h = ap (folded tree.expr tree.no_exprs) (ids_alike ids h)

  pub step_alike : (x : Step) → StepBelow n x → step_made f x ≡ step_made g x
  step_alike (steps.Member x) h = refl
  step_alike (steps.Call x ids) h = ap (tree.call x) (exprs_alike ids.items h)
  step_alike (steps.Index k) h = ap tree.index (same k h)

  pub steps_map_alike : (xs : List Step) → StepsBelow n xs → map (step_made f) xs ≡ map (step_made g) xs
  steps_map_alike xs h = mapped_alike (step_made f) (step_made g) (StepBelow n) xs step_alike h

  pub steps_alike : (xs : List Step) → StepsBelow n xs → steps_made f xs ≡ steps_made g xs
  steps_alike xs h = ap (folded tree.step tree.no_steps) (steps_map_alike xs h)

  pub part_alike : (x : Part) → PartBelow n x → part_made f x ≡ part_made g x
  part_alike (parts.Bytes t) h = refl
  part_alike (parts.Printed source x ss) h = ap (tree.printed source (tree.named x)) (steps_alike ss.items h)

  pub parts_map_alike : (xs : List Part) → PartsBelow n xs → map (part_made f) xs ≡ map (part_made g) xs
  parts_map_alike xs h = mapped_alike (part_made f) (part_made g) (PartBelow n) xs part_alike h

  pub pairs_map_alike : (xs : List Pair) → PairsBelow n xs → map (pair_made f) xs ≡ map (pair_made g) xs
  pairs_map_alike xs h = mapped_alike (pair_made f) (pair_made g) (PairBelow n) xs (λ p i. ap (λ z. (z, f p.value)) (same p.key i.0) ∙ ap (λ z. (g p.key, z)) (same p.value i.1)) h

  pub chained_alike : (x : Expr) (ls : List Link) → LinksBelow n ls → chained f x ls ≡ chained g x ls
  chained_alike x [] h = refl
  chained_alike x (l ∷ ls) h = ap (λ z. chained f (tree.binary (op_of l.operator) x z) ls) (same l.operand h.0) ∙ chained_alike (tree.binary (op_of l.operator) x (g l.operand)) ls h.1

  pub made_alike : (x : ExprNode) → IsBelow n x → made f x ≡ made g x
  made_alike (exprs.Whole z) h = refl
  made_alike (exprs.Boolean b) h = refl
  made_alike (exprs.Text t) h = refl
  made_alike (exprs.Joined ps) h = ap (λ z. tree.joined (folded tree.part tree.no_parts z)) (parts_map_alike ps.items h)
  made_alike (exprs.Negated j) h = ap tree.negated (same j h)
  made_alike (exprs.Chain j ls) h = ap (λ z. chained f z ls.items) (same j h.0) ∙ chained_alike (g j) ls.items h.1
  made_alike (exprs.List ids) h = ap tree.listed (exprs_alike ids.items h)
  made_alike (exprs.Range a b) h = ap (λ z. tree.range z (f b)) (same a h.0) ∙ ap (tree.range (g a)) (same b h.1)
  made_alike (exprs.Map ps) h = ap (λ z. tree.mapped (folded with_pair tree.no_pairs z)) (pairs_map_alike ps.items h)
  made_alike (exprs.Reference x ss) h = ap (tree.reference (tree.named x)) (steps_alike ss.items h)

module _ (e d : ℕ → Expr) (n : ℕ) (same : (k : ℕ) → k < n → e k ≡ d k) (f g : ℕ → Item) (m : ℕ) (alike : (k : ℕ) → k < m → f k ≡ g k) where
  pub items_alike : (ids : List ℕ) → AllBelow m ids → items_made f ids ≡ items_made g ids
  items_alike ids h = ap (λ z. with_items z tree.no_items) (mapped_alike f g (λ k. k < m) ids alike h)

  pub branches_map_alike : (bs : List Branch) → BranchesBelow n m bs → map (branch_made e f) bs ≡ map (branch_made d g) bs
  branches_map_alike bs h = mapped_alike (branch_made e f) (branch_made d g) (BranchBelow n m) bs (λ b i. ap (λ z. (z, items_made f b.items.items)) (same b.condition i.0) ∙ ap (λ z. (d b.condition, z)) (items_alike b.items.items i.1)) h

  pub item_alike : (x : ItemNode) → ItemIsBelow n m x → item_made e f x ≡ item_made d g x
  item_alike (items.Text t) h = refl
  item_alike items.Comment h = refl
  item_alike (items.Output source x ss) h = ap (tree.output source (tree.named x)) (steps_alike e d n same ss.items h)
  item_alike (items.Set target j) h = ap (tree.set (target_of target)) (same j h)
  item_alike (items.If bs is) h = ap (λ z. tree.choose (folded with_branch (tree.otherwise (items_made f is.items)) z)) (branches_map_alike bs.items h.0) ∙ ap (λ z. tree.choose (folded with_branch (tree.otherwise z) (map (branch_made d g) bs.items))) (items_alike is.items h.1)
  item_alike (items.ForEach x j is) h = ap (λ z. tree.foreach x z (items_made f is.items)) (same j h.0) ∙ ap (tree.foreach x (d j)) (items_alike is.items h.1)
  item_alike items.Break h = refl
  item_alike items.Stop h = refl
  item_alike (items.Define x ps is) h = ap (tree.define x ps) (items_alike is.items h)
  item_alike (items.MacroCall at x ids) h = ap (tree.macro_call at x) (exprs_alike e d n same ids.items h)

-- arenas

there_alike : (f g : ℕ → Expr) (k : ℕ) (o : Option ExprNode) → ((j : ℕ) → j < k → f j ≡ g j) → ((x : ExprNode) → o ≡ Some x → IsBelow k x) → there f o ≡ there g o
there_alike f g k None same below = refl
there_alike f g k (Some x) same below = made_alike f g k same x (below x refl)

-- lists that agree up to k have the same tree there
alike : (ms ns : List ExprNode) (c d k : ℕ) → ((j : ℕ) (x : ExprNode) → slice_get ms j ≡ Some x → IsBelow j x) → ((j : ℕ) → j ≤ k → slice_get ms j ≡ slice_get ns j) → k < c → k < d → expr_within c ms k ≡ expr_within d ns k
unfolding expr_within
alike ms ns zero d k ordered agree h i = absurd (omega (arith, h))
alike ms ns (suc c) zero k ordered agree h i = absurd (omega (arith, i))
alike ms ns (suc c) (suc d) k ordered agree h i =
    there_alike (expr_within c ms) (expr_within d ns) k (slice_get ms k) (λ j below. alike ms ns c d j ordered (λ m le. agree m (omega (arith, le, below))) (omega (arith, h, below)) (omega (arith, i, below))) (ordered k)
    ∙ ap (there (expr_within d ns)) (agree k (omega arith))

item_there_alike : (e d : ℕ → Expr) (n : ℕ) → ((k : ℕ) → k < n → e k ≡ d k) → (f g : ℕ → Item) (k : ℕ) (o : Option ItemNode) → ((j : ℕ) → j < k → f j ≡ g j) → ((x : ItemNode) → o ≡ Some x → ItemIsBelow n k x) → item_there e f o ≡ item_there d g o
item_there_alike e d n same f g k None alike below = refl
item_there_alike e d n same f g k (Some x) alike below = item_alike e d n same f g k alike x (below x refl)

item_list_alike : (e f : ℕ → Expr) (n : ℕ) → ((k : ℕ) → k < n → e k ≡ f k) → (ms ns : List ItemNode) (c d k : ℕ) → ((j : ℕ) (x : ItemNode) → slice_get ms j ≡ Some x → ItemIsBelow n j x) → ((j : ℕ) → j ≤ k → slice_get ms j ≡ slice_get ns j) → k < c → k < d → item_within e c ms k ≡ item_within f d ns k
unfolding item_within
item_list_alike e f n same ms ns zero d k ordered agree h i = absurd (omega (arith, h))
item_list_alike e f n same ms ns (suc c) zero k ordered agree h i = absurd (omega (arith, i))
item_list_alike e f n same ms ns (suc c) (suc d) k ordered agree h i =
    item_there_alike e f n same (item_within e c ms) (item_within f d ns) k (slice_get ms k) (λ j below. item_list_alike e f n same ms ns c d j ordered (λ m le. agree m (omega (arith, le, below))) (omega (arith, h, below)) (omega (arith, i, below))) (ordered k)
    ∙ ap (item_there f (item_within f d ns)) (agree k (omega arith))

ordered_push : {A : Type 0} (P : ℕ → A → Type 0) (ns : List A) (x : A) → ((k : ℕ) (y : A) → slice_get ns k ≡ Some y → P k y) → P (length ns) x → (k : ℕ) (y : A) → slice_get (ns ++ x ∷ []) k ≡ Some y → P k y
ordered_push {A = A} P ns x ordered below k y at = go (split k (length ns) (omega (arith, slice_get_within (ns ++ x ∷ []) k y at, length_push ns x)))
  where
    go : (k < length ns) ⊎ (k ≡ length ns) → P k y
    go (inl h) = ordered k y (sym (get_front ns x k h) ∙ at)
    go (inr e) =
        let last : slice_get (ns ++ x ∷ []) k ≡ Some x = ap (slice_get (ns ++ x ∷ [])) e ∙ get_last ns x in
        let Q : A → Type 0 = λ z. P k z in
        let R : ℕ → Type 0 = λ z. P z x in
        subst Q (some_inj x y (sym last ∙ at)) (subst R (sym e) below)

same_exprs : (ns : List ExprNode) (x : ExprNode) → ((j : ℕ) (x : ExprNode) → slice_get ns j ≡ Some x → IsBelow j x) → (k : ℕ) → k < length ns → expr_of (ns ++ x ∷ []) k ≡ expr_of ns k
same_exprs ns x ordered k h = sym (alike ns (ns ++ x ∷ []) (suc k) (suc k) k ordered (agree_front ns x k h) (omega arith) (omega arith))

module _ (es : List ExprNode) (is : List ItemNode) (ordered : AreOrdered (record { exprs = es; items = is })) where
  pub ordered_expr : (x : ExprNode) → IsBelow (length es) x → AreOrdered (record { exprs = es ++ x ∷ []; items = is })
  ordered_expr x below = record {
    exprs = ordered_push IsBelow es x ordered.exprs below;
    items = λ k y at. item_more (length es) (length (es ++ x ∷ [])) k y (omega (arith, length_push es x)) (ordered.items k y at);
  }

  pub keeps_expr : (x : ExprNode) → IsBelow (length es) x → Keeps (record { exprs = es; items = is }) (record { exprs = es ++ x ∷ []; items = is })
  keeps_expr x below = record {
    more_exprs = omega (arith, length_push es x);
    more_items = omega arith;
    same_exprs = same_exprs es x ordered.exprs;
    same_items = λ k h. sym (item_list_alike (expr_of es) (expr_of (es ++ x ∷ [])) (length es) (λ j i. sym (same_exprs es x ordered.exprs j i)) is is (suc k) (suc k) k ordered.items (λ j le. refl) (omega arith) (omega arith));
  }

  pub tree_expr : (x : ExprNode) → IsBelow (length es) x → expr_of (es ++ x ∷ []) (length es) ≡ made (expr_of es) x
  unfolding expr_within
  tree_expr x below =
      ap (there (expr_within (length es) (es ++ x ∷ []))) (get_last es x)
      ∙ made_alike (expr_within (length es) (es ++ x ∷ [])) (expr_of es) (length es) (λ j h. sym (alike es (es ++ x ∷ []) (suc j) (length es) j ordered.exprs (agree_front es x j h) (omega arith) h)) x below

  pub ordered_item : (x : ItemNode) → ItemIsBelow (length es) (length is) x → AreOrdered (record { exprs = es; items = is ++ x ∷ [] })
  ordered_item x below = record {
    exprs = ordered.exprs;
    items = ordered_push (ItemIsBelow (length es)) is x ordered.items below;
  }

  pub keeps_item : (x : ItemNode) → ItemIsBelow (length es) (length is) x → Keeps (record { exprs = es; items = is }) (record { exprs = es; items = is ++ x ∷ [] })
  keeps_item x below = record {
    more_exprs = omega arith;
    more_items = omega (arith, length_push is x);
    same_exprs = λ k h. refl;
    same_items = λ k h. sym (item_list_alike (expr_of es) (expr_of es) (length es) (λ j i. refl) is (is ++ x ∷ []) (suc k) (suc k) k ordered.items (agree_front is x k h) (omega arith) (omega arith));
  }

  pub tree_item : (x : ItemNode) → ItemIsBelow (length es) (length is) x → item_within (expr_of es) (suc (length is)) (is ++ x ∷ []) (length is) ≡ item_made (expr_of es) (item_of (record { exprs = es; items = is })) x
  unfolding item_within
  tree_item x below =
      ap (item_there (expr_of es) (item_within (expr_of es) (length is) (is ++ x ∷ []))) (get_last is x)
      ∙ item_alike (expr_of es) (expr_of es) (length es) (λ j h. refl) (item_within (expr_of es) (length is) (is ++ x ∷ [])) (item_of (record { exprs = es; items = is })) (length is) (λ j h. sym (item_list_alike (expr_of es) (expr_of es) (length es) (λ j i. refl) is (is ++ x ∷ []) (suc j) (length is) j ordered.items (agree_front is x j h) (omega arith) h)) x below

pub there_at : {A : Type 0} (xs : List A) (k : ℕ) (d : A) → k < length xs → slice_get xs k ≡ Some (get_or xs k d)
there_at [] k d h = absurd (omega (arith, h))
there_at (x ∷ xs) zero d h = refl
there_at (x ∷ xs) (suc k) d h = there_at xs k d (omega (arith, h))

-- a node that stands there
module _ (ns : Nodes) (ordered : AreOrdered ns) (k : ℕ) where
  pub expr_opened : (x : ExprNode) → slice_get ns.exprs k ≡ Some x → expr_of ns.exprs k ≡ made (expr_of ns.exprs) x
  unfolding expr_within
  expr_opened x at =
      ap (there (expr_within k ns.exprs)) at
      ∙ made_alike (expr_within k ns.exprs) (expr_of ns.exprs) k (λ j h. alike ns.exprs ns.exprs k (suc j) j ordered.exprs (λ i le. refl) h (omega arith)) x (ordered.exprs k x at)

  pub item_opened : (x : ItemNode) → slice_get ns.items k ≡ Some x → item_of ns k ≡ item_made (expr_of ns.exprs) (item_of ns) x
  unfolding item_within
  item_opened x at =
      ap (item_there (expr_of ns.exprs) (item_within (expr_of ns.exprs) k ns.items)) at
      ∙ item_alike (expr_of ns.exprs) (expr_of ns.exprs) (length ns.exprs) (λ j h. refl) (item_within (expr_of ns.exprs) k ns.items) (item_of ns) k (λ j h. item_list_alike (expr_of ns.exprs) (expr_of ns.exprs) (length ns.exprs) (λ i le. refl) ns.items ns.items k (suc j) j ordered.items (λ i le. refl) h (omega arith)) x (ordered.items k x at)

pub keeps_all : (ns : Nodes) → Keeps ns ns
keeps_all ns = record { more_exprs = omega arith; more_items = omega arith; same_exprs = λ k h. refl; same_items = λ k h. refl }

pub keeps_trans : (a b c : Nodes) → Keeps a b → Keeps b c → Keeps a c
keeps_trans a b c p q = record {
  more_exprs = omega (arith, p.more_exprs, q.more_exprs);
  more_items = omega (arith, p.more_items, q.more_items);
  same_exprs = λ k h. q.same_exprs k (omega (arith, h, p.more_exprs)) ∙ p.same_exprs k h;
  same_items = λ k h. q.same_items k (omega (arith, h, p.more_items)) ∙ p.same_items k h;
}

chained_push : (f : ℕ → Expr) (x : Expr) (ls : List Link) (l : Link) → chained f x (ls ++ l ∷ []) ≡ tree.binary (op_of l.operator) (chained f x ls) (f l.operand)
chained_push f x [] l = refl
chained_push f x (j ∷ ls) l = chained_push f (tree.binary (op_of j.operator) x (f j.operand)) ls l

-- what an arena that keeps the old nodes makes of the same numbers

module _ (old new : Nodes) (p : Keeps old new) where
  pub exprs_kept : (ids : List ℕ) → AllBelow (length old.exprs) ids → map (expr_of new.exprs) ids ≡ map (expr_of old.exprs) ids
  exprs_kept ids h = ids_alike (expr_of new.exprs) (expr_of old.exprs) (length old.exprs) p.same_exprs ids h

  pub steps_kept : (xs : List Step) → StepsBelow (length old.exprs) xs → map (step_made (expr_of new.exprs)) xs ≡ map (step_made (expr_of old.exprs)) xs
  steps_kept xs h = steps_map_alike (expr_of new.exprs) (expr_of old.exprs) (length old.exprs) p.same_exprs xs h

  pub parts_kept : (xs : List Part) → PartsBelow (length old.exprs) xs → map (part_made (expr_of new.exprs)) xs ≡ map (part_made (expr_of old.exprs)) xs
  parts_kept xs h = parts_map_alike (expr_of new.exprs) (expr_of old.exprs) (length old.exprs) p.same_exprs xs h

  pub pairs_kept : (xs : List Pair) → PairsBelow (length old.exprs) xs → map (pair_made (expr_of new.exprs)) xs ≡ map (pair_made (expr_of old.exprs)) xs
  pairs_kept xs h = pairs_map_alike (expr_of new.exprs) (expr_of old.exprs) (length old.exprs) p.same_exprs xs h

  pub items_kept : (ids : List ℕ) → AllBelow (length old.items) ids → map (item_of new) ids ≡ map (item_of old) ids
  items_kept ids h = mapped_alike (item_of new) (item_of old) (λ k. k < length old.items) ids p.same_items h

  pub chain_kept : (k : ℕ) (ls : List Link) (l : Link) → k < length old.exprs → LinksBelow (length old.exprs) ls → chained (expr_of new.exprs) (expr_of new.exprs k) (ls ++ l ∷ []) ≡ tree.binary (op_of l.operator) (chained (expr_of old.exprs) (expr_of old.exprs k) ls) (expr_of new.exprs l.operand)
  chain_kept k ls l h below =
      chained_push (expr_of new.exprs) (expr_of new.exprs k) ls l
      ∙ ap (λ z. tree.binary (op_of l.operator) z (expr_of new.exprs l.operand)) (ap (λ z. chained (expr_of new.exprs) z ls) (p.same_exprs k h) ∙ chained_alike (expr_of new.exprs) (expr_of old.exprs) (length old.exprs) p.same_exprs (expr_of old.exprs k) ls below)

  pub branches_kept : (bs : List Branch) → BranchesBelow (length old.exprs) (length old.items) bs → map (branch_made (expr_of new.exprs) (item_of new)) bs ≡ map (branch_made (expr_of old.exprs) (item_of old)) bs
  branches_kept bs h = branches_map_alike (expr_of new.exprs) (expr_of old.exprs) (length old.exprs) p.same_exprs (item_of new) (item_of old) (length old.items) p.same_items bs h
