-- When two values are the same: whole numbers by value, other numbers by source text, strings by decoded text, lists
-- item by item, and objects by members in any order.
use Rattle.std.specs.Prelude.{ℕ, Bool, true, false, ◌&&◌, List, Option, Some, None, ◌==◌}
use Rattle.std.specs.Ordering.{int_cmp, is_eq}
use Rattle.std.specs.Str.{bytes_eq}
use Rattle.json_subset.specs.Tree.{Tree, node, Form, null, bool, number, text, list, object, Trees, no_trees, tree, Members, no_members, member, Number, whole, decimal, wide}
use Rattle.json_subset.specs.Documents.{first_named, count_members}

abbrev pub same_bool : Bool → Bool → Bool
same_bool true b = b
same_bool false true = false
same_bool false false = true

-- two numbers by their kinds and sources
abbrev pub same_number : Number → List ℕ → Number → List ℕ → Bool
same_number (whole y) s (whole z) t = is_eq (int_cmp y z)
same_number decimal s decimal t = bytes_eq s t
same_number wide s wide t = bytes_eq s t
same_number x s y t = false

-- the test of what was found
abbrev pub if_found : (Tree → Bool) → Option Tree → Bool
if_found test None = false
if_found test (Some u) = test u

abbrev mutual
  pub same : Tree → Tree → Bool
  same (node a b f) (node c d g) = same_form f g

  pub same_form : Form → Form → Bool
  same_form null null = true
  same_form (bool a) (bool b) = same_bool a b
  same_form (number x s) (number y t) = same_number x s y t
  same_form (text s) (text t) = bytes_eq s t
  same_form (list ts) (list us) = same_items ts us
  same_form (object ms) (object ns) = (count_members ms == count_members ns) && all_in ms ns
  same_form f g = false

  -- item by item
  pub same_items : Trees → Trees → Bool
  same_items no_trees no_trees = true
  same_items (tree t ts) (tree u us) = same t u && same_items ts us
  same_items ts us = false

  -- each member's name stands in the other object, with the same value
  pub all_in : Members → Members → Bool
  all_in no_members ns = true
  all_in (member x t ms) ns = if_found (same t) (first_named ns x) && all_in ms ns
