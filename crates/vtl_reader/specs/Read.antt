-- The nodes that stand for a text.
use Rattle.std.specs.Prelude.{◌≡◌, ℕ, Bool, true, false, ◌&&◌, List, [], ◌∷◌, codes, bytes_eq, length, Ok}
use Rattle.std.specs.List.{list_all}
use Rattle.vtl_grammar.specs.Templates.{read_of}
use Rattle.vtl_reader.specs.declared.nodes.ItemNode.{ItemNode}
use Rattle.vtl_reader.specs.declared.nodes.ItemNode.TheVariants as i
use Rattle.vtl_reader.specs.declared.nodes.Step.{Step}
use Rattle.vtl_reader.specs.declared.nodes.Step.TheVariants as steps
use Rattle.vtl_grammar.specs.Calls.{macros_in}
use Rattle.vtl_reader.specs.Nodes.{Nodes, item_of, items_made, AllBelow}
use Rattle.vtl_reader.specs.Macros.{Listed, macros_by}

-- the items with these numbers are what is read of the text, and its macros are listed
pub record IsRead (text : List ℕ) (ns : Nodes) (listed : Listed) (ids : List ℕ) : Type 0 where
  pub read : read_of text ≡ Ok (items_made (item_of ns) ids)
  pub below : AllBelow (length ns.items) ids
  pub macros : (x : List ℕ) → macros_by ns listed x ≡ macros_in (items_made (item_of ns) ids) x
  pub defined : AllBelow (length ns.items) listed.ids

abbrev pub is_member : Step → Bool
is_member (steps.Member x) = true
is_member (steps.Call x ids) = false
is_member (steps.Index k) = false

-- names alone
unfoldable pub are_members : List Step → Bool
are_members xs = list_all is_member xs

unfoldable pub is_simple_node : ItemNode → Bool
is_simple_node (i.Text t) = true
is_simple_node (i.Output source x ss) = are_members ss.items
is_simple_node i.Comment = false
is_simple_node (i.Set target k) = false
is_simple_node (i.If bs is) = false
is_simple_node (i.ForEach x k is) = false
is_simple_node i.Break = false
is_simple_node i.Stop = false
is_simple_node (i.Define x ps is) = false
is_simple_node (i.MacroCall at x ids) = false

abbrev pub is_body_step : List Step → Bool
is_body_step [] = false
is_body_step (steps.Member x ∷ []) = bytes_eq x (codes "body")
is_body_step (steps.Member x ∷ y ∷ ss) = false
is_body_step (steps.Call x ids ∷ ss) = false
is_body_step (steps.Index k ∷ ss) = false

-- `input.body`
abbrev pub is_body : List ℕ → List Step → Bool
is_body x ss = bytes_eq x (codes "input") && is_body_step ss

abbrev pub is_plain_node : ItemNode → Bool
is_plain_node (i.Text t) = true
is_plain_node (i.Output source x ss) = is_body x ss.items
is_plain_node i.Comment = false
is_plain_node (i.Set target k) = false
is_plain_node (i.If bs is) = false
is_plain_node (i.ForEach x k is) = false
is_plain_node i.Break = false
is_plain_node i.Stop = false
is_plain_node (i.Define x ps is) = false
is_plain_node (i.MacroCall at x ids) = false
