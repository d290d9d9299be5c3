-- A document that was read, and its parts.
use Rattle.std.specs.Prelude.{◌≡◌, ℕ, zero, suc, ◌<◌, List, length, Option, Some, None, if◌then◌else◌, slice_range}
use Rattle.std.specs.Str.{IsUtf8, bytes_eq}
use Rattle.json_subset.specs.Tree.{Tree, node, Form, null, bool, number, text, list, object, Trees, no_trees, tree, Members, no_members, member, whole, decimal, wide}
use Rattle.json_subset.specs.Grammar.{Spells}
use Rattle.json_subset.specs.Nodes.{AreSound, tree_of}
use Rattle.json_subset.specs.declared.node.Node.{Node}
use Rattle.json_subset.specs.declared.doc.Kind.{Kind}
use Rattle.json_subset.specs.declared.doc.Kind.TheVariants as kinds

-- its text, its nodes and its root's number
pub record Document : Type 0 where
  pub text : List ℕ
  pub nodes : List Node
  pub root : ℕ

-- the tree of the part of this number
abbrev pub part : Document → ℕ → Tree
part d k = tree_of d.text d.nodes k

abbrev pub root_tree : Document → Tree
root_tree d = part d d.root

abbrev pub IsPart : Document → ℕ → Type 0
IsPart d k = k < length d.nodes

pub record IsDocument (d : Document) : Type 0 where
  pub utf8 : IsUtf8 d.text
  pub sound : AreSound d.text d.nodes
  pub root : d.root < length d.nodes
  pub spelled : Spells d.text (root_tree d)

abbrev pub form : Tree → Form
form (node first past f) = f

-- the place of a value's first byte
abbrev pub place : Tree → ℕ
place (node first past f) = first

-- the bytes of a value
abbrev pub span : List ℕ → Tree → List ℕ
span s (node first past f) = slice_range s first past

abbrev pub count : Trees → ℕ
count no_trees = 0
count (tree t ts) = suc (count ts)

abbrev pub count_members : Members → ℕ
count_members no_members = 0
count_members (member x t ms) = suc (count_members ms)

-- what a value is
abbrev pub kind : Form → Kind
kind null = kinds.Null
kind (bool b) = kinds.Bool b
kind (number (whole z) s) = kinds.Whole z
kind (number decimal s) = kinds.Decimal
kind (number wide s) = kinds.Wide
kind (text t) = kinds.Text
kind (list ts) = kinds.List (count ts)
kind (object ms) = kinds.Object (count_members ms)

-- a string's decoded text
abbrev pub decoded : Form → Option (List ℕ)
decoded null = None
decoded (bool b) = None
decoded (number k s) = None
decoded (text t) = Some t
decoded (list ts) = None
decoded (object ms) = None

abbrev pub tree_at : Trees → ℕ → Option Tree
tree_at no_trees i = None
tree_at (tree t ts) zero = Some t
tree_at (tree t ts) (suc i) = tree_at ts i

-- an item by its place in a list
abbrev pub item_at : Form → ℕ → Option Tree
item_at null i = None
item_at (bool b) i = None
item_at (number k s) i = None
item_at (text t) i = None
item_at (list ts) i = tree_at ts i
item_at (object ms) i = None

abbrev pub pair_at : Members → ℕ → Option (List ℕ × Tree)
pair_at no_members i = None
pair_at (member x t ms) zero = Some (x, t)
pair_at (member x t ms) (suc i) = pair_at ms i

-- a member by its place in an object
abbrev pub entry_at : Form → ℕ → Option (List ℕ × Tree)
entry_at null i = None
entry_at (bool b) i = None
entry_at (number k s) i = None
entry_at (text t) i = None
entry_at (list ts) i = None
entry_at (object ms) i = pair_at ms i

abbrev pub first_named : Members → List ℕ → Option Tree
first_named no_members q = None
first_named (member x t ms) q = if bytes_eq x q then Some t else first_named ms q

-- the first member of this name
abbrev pub member_named : Form → List ℕ → Option Tree
member_named null q = None
member_named (bool b) q = None
member_named (number k s) q = None
member_named (text t) q = None
member_named (list ts) q = None
member_named (object ms) q = first_named ms q

-- a value is within itself, and so are the items of a list and the values of an object's members that are within it
pub data IsWithin : Tree → Tree → Type 0 where
  itself : (v : Tree) → IsWithin v v
  item_within : (u t v : Tree) (i : ℕ) → IsWithin t v → item_at (form t) i ≡ Some u → IsWithin u v
  entry_within : (u t v : Tree) (i : ℕ) (x : List ℕ) → IsWithin t v → entry_at (form t) i ≡ Some (x, u) → IsWithin u v
  member_within : (u t v : Tree) (q : List ℕ) → IsWithin t v → member_named (form t) q ≡ Some u → IsWithin u v
