-- A tree without its places.
use Rattle.std.specs.Prelude.{◌≡◌}
use Rattle.json_subset.specs.Tree.{Tree, node, Form, null, bool, number, text, list, object, Trees, no_trees, tree, Members, no_members, member}

-- each place is 0: kinds, numbers' texts, decoded strings, names and order alone are left
abbrev mutual
  pub bare : Tree → Tree
  bare (node first past f) = node 0 0 (bare_form f)

  pub bare_form : Form → Form
  bare_form null = null
  bare_form (bool b) = bool b
  bare_form (number k s) = number k s
  bare_form (text t) = text t
  bare_form (list ts) = list (bare_trees ts)
  bare_form (object ms) = object (bare_members ms)

  pub bare_trees : Trees → Trees
  bare_trees no_trees = no_trees
  bare_trees (tree t ts) = tree (bare t) (bare_trees ts)

  pub bare_members : Members → Members
  bare_members no_members = no_members
  bare_members (member x t ms) = member x (bare t) (bare_members ms)

-- the same tree but for places
abbrev pub IsSameBare : Tree → Tree → Type 0
IsSameBare t u = bare t ≡ bare u
