-- The macros of a template by name.
use Rattle.std.specs.Prelude.{◌≡◌, ℕ, true, List, [], ◌∷◌, length, is_some, Option, Some, None, slice_get, option_and_then}
use Rattle.std.specs.List.{AllByRecursion}
use Rattle.vtl_grammar.specs.Tree as tree
use Rattle.vtl_grammar.specs.Tree.{Item}
use Rattle.vtl_grammar.specs.Calls.{Macro, Macros, first_of, wrong_calls}
use Rattle.vtl_words.specs.Names.{place_of}
use Rattle.vtl_reader.specs.declared.nodes.Branch.{Branch}
use Rattle.vtl_reader.specs.Nodes.{Nodes, item_of, items_made, AllBelow}

-- the names of macros, and at the same places the numbers of the items that define them
pub record Listed : Type 0 where
  pub names : List (List ℕ)
  pub ids : List ℕ

-- what an item defines
abbrev pub defines : Item → Option Macro
defines (tree.text t) = None
defines tree.comment = None
defines (tree.output source b ss) = None
defines (tree.set target e) = None
defines (tree.choose bs) = None
defines (tree.foreach x e is) = None
defines tree.break_ = None
defines tree.stop = None
defines (tree.define x ps is) = Some (record { params = ps; body = is })
defines (tree.macro_call at x es) = None
defines tree.deep = None

-- the number of the item that defines the macro of this name
abbrev pub found_in : Listed → List ℕ → Option ℕ
found_in l x = option_and_then (slice_get l.ids) (place_of l.names x)

abbrev pub macros_by : Nodes → Listed → Macros
macros_by ns l x = option_and_then (λ k. defines (item_of ns k)) (found_in l x)

-- the first wrong call in branches with a condition, where f gives the items
abbrev pub wrong_heads : Macros → (ℕ → Item) → List Branch → Option ℕ
wrong_heads ms f [] = None
wrong_heads ms f (b ∷ bs) = first_of (wrong_calls ms (items_made f b.items.items)) (wrong_heads ms f bs)

-- names and numbers stand side by side, and the items with these numbers define macros
pub record AreListed (ns : Nodes) (names : List (List ℕ)) (ids : List ℕ) : Type 0 where
  pub same : length names ≡ length ids
  pub all : AllByRecursion (λ k. is_some (defines (item_of ns k)) ≡ true) ids
  pub defined : AllBelow (length ns.items) ids
