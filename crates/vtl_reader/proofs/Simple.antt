-- The steps of a reference that are names alone.
use Rattle.std.proofs.Common.{◌≡◌, ℕ, zero, suc, ◌+◌, ◌<◌, List, [], ◌∷◌, length, drop, get_or, refl, sym, ap, ◌∙◌, arith, true, false, Bool}
use Rattle.std.specs.Prelude.{◌&&◌}
use Rattle.vtl_grammar.specs.Tree.{Expr, Item, named}
use Rattle.vtl_grammar.specs.Uses.{are_names, is_simple_item, is_simple, is_plain_item}
use Rattle.vtl_grammar.specs.Uses.{is_body as tree_body}
use Rattle.vtl_reader.specs.declared.nodes.ItemNode.{ItemNode}
use Rattle.vtl_reader.specs.declared.nodes.ItemNode.TheVariants as i
use Rattle.vtl_reader.specs.declared.nodes.Step.{Step}
use Rattle.vtl_reader.specs.declared.nodes.Step.TheVariants as steps
use Rattle.vtl_reader.specs.Nodes.{steps_made, item_made, items_made, AllBelow}
use Rattle.vtl_reader.specs.Read.{are_members, is_simple_node, is_plain_node, is_body}

pub names_are_members : (f : ℕ → Expr) (xs : List Step) → are_names (steps_made f xs) ≡ are_members xs
unfolding are_members
names_are_members f [] = refl
names_are_members f (steps.Member x ∷ xs) = names_are_members f xs
names_are_members f (steps.Call x ids ∷ xs) = refl
names_are_members f (steps.Index k ∷ xs) = refl

pub simple_made : (e : ℕ → Expr) (f : ℕ → Item) (x : ItemNode) → is_simple_item (item_made e f x) ≡ is_simple_node x
unfolding is_simple_node is_simple_item
simple_made e f (i.Text t) = refl
simple_made e f i.Comment = refl
simple_made e f (i.Output source x ss) = names_are_members e ss.items
simple_made e f (i.Set target k) = refl
simple_made e f (i.If bs is) = refl
simple_made e f (i.ForEach x k is) = refl
simple_made e f i.Break = refl
simple_made e f i.Stop = refl
simple_made e f (i.Define x ps is) = refl
simple_made e f (i.MacroCall at x ids) = refl

body_made : (e : ℕ → Expr) (x : List ℕ) (ss : List Step) → tree_body (named x) (steps_made e ss) ≡ is_body x ss
body_made e x [] = refl
body_made e x (steps.Member y ∷ []) = refl
body_made e x (steps.Member y ∷ z ∷ ss) = refl
body_made e x (steps.Call y ids ∷ ss) = refl
body_made e x (steps.Index k ∷ ss) = refl

pub plain_made : (e : ℕ → Expr) (f : ℕ → Item) (x : ItemNode) → is_plain_item (item_made e f x) ≡ is_plain_node x
plain_made e f (i.Text t) = refl
plain_made e f i.Comment = refl
plain_made e f (i.Output source x ss) = body_made e x ss.items
plain_made e f (i.Set target k) = refl
plain_made e f (i.If bs is) = refl
plain_made e f (i.ForEach x k is) = refl
plain_made e f i.Break = refl
plain_made e f i.Stop = refl
plain_made e f (i.Define x ps is) = refl
plain_made e f (i.MacroCall at x ids) = refl

module _ (f : ℕ → Item) where
  next_simple : (ids : List ℕ) (n d : ℕ) → n < length ids → is_simple (items_made f (drop n ids)) ≡ (is_simple_item (f (get_or ids n d)) && is_simple (items_made f (drop (suc n) ids)))
  next_simple [] n d h = absurd (omega (arith, h))
  next_simple (k ∷ ids) zero d h = refl
  next_simple (k ∷ ids) (suc n) d h = next_simple ids n d (omega (arith, h))

  pub simple_goes_on : (ids : List ℕ) (n d : ℕ) (t : Bool) → n < length ids → is_simple (items_made f (drop n ids)) ≡ t → is_simple_item (f (get_or ids n d)) ≡ true → is_simple (items_made f (drop (n + 1) ids)) ≡ t
  simple_goes_on ids n d t h e s =
      let one : n + 1 ≡ suc n = omega arith in
      ap (λ m. is_simple (items_made f (drop m ids))) one ∙ ap (λ z. z && is_simple (items_made f (drop (suc n) ids))) (sym s) ∙ sym (next_simple ids n d h) ∙ e

  pub simple_stops : (ids : List ℕ) (n d : ℕ) (t : Bool) → n < length ids → is_simple (items_made f (drop n ids)) ≡ t → is_simple_item (f (get_or ids n d)) ≡ false → false ≡ t
  simple_stops ids n d t h e s = ap (λ z. z && is_simple (items_made f (drop (suc n) ids))) (sym s) ∙ sym (next_simple ids n d h) ∙ e

pub below_at : (m : ℕ) (ids : List ℕ) (n d : ℕ) → AllBelow m ids → n < length ids → get_or ids n d < m
below_at m [] n d h i = absurd (omega (arith, i))
below_at m (k ∷ ids) zero d h i = h.0
below_at m (k ∷ ids) (suc n) d h i = below_at m ids n d h.1 (omega (arith, i))
