-- Which tree a node of a document stands for.
use Rattle.std.specs.Prelude.{◌≡◌, ℕ, zero, suc, ◌<◌, ◌≤◌, ◌^◌, List, length, map, Option, Some, None, slice_get, slice_range, String}
use Rattle.std.specs.List.{AllByRecursion}
use Rattle.std.specs.Str.{IsCharBoundary}
use Rattle.std.specs.String.{string_bytes}
use Rattle.std.specs.declared.alloc.Global.{Global}
use Rattle.json_subset.specs.Tree.{Tree, node, Form, null, bool, number, text, list, object, trees_of, members_of}
use Rattle.json_subset.specs.Numbered.{IsIndexOf}
use Rattle.json_subset.specs.Views.{number_view}
use Rattle.json_subset.specs.declared.node.Node.{Node}
use Rattle.json_subset.specs.declared.node.Form.{Form as CodeForm}
use Rattle.json_subset.specs.declared.node.Form.TheVariants as code

abbrev pub member_at : (ℕ → Tree) → String Global × ℕ → List ℕ × Tree
member_at f m = (string_bytes m.0, f m.1)

-- the form of a node, where f gives the trees of its parts
abbrev pub form_of : List ℕ → (ℕ → Tree) → CodeForm → Form
form_of source f code.Null = null
form_of source f (code.Bool b) = bool b
form_of source f (code.Number x) = number (number_view x) source
form_of source f (code.Text t) = text (string_bytes t)
form_of source f (code.List ids) = list (trees_of (map f ids.items))
form_of source f (code.Object ms) = object (members_of (map (member_at f) ms.list.items))

-- the tree of a node of this text
abbrev pub made : List ℕ → (ℕ → Tree) → Node → Tree
made s f x = node x.first x.past (form_of (slice_range s x.first x.past) f x.form)

abbrev pub AllBelow : ℕ → List ℕ → Type 0
AllBelow n ids = AllByRecursion (λ k. k < n) ids

abbrev pub AllValuesBelow : ℕ → List (String Global × ℕ) → Type 0
AllValuesBelow n ms = AllByRecursion (λ m. m.1 < n) ms

-- the parts of a form are before n
abbrev pub IsBelow : ℕ → CodeForm → Type 0
IsBelow n code.Null = Unit {0}
IsBelow n (code.Bool b) = Unit {0}
IsBelow n (code.Number x) = Unit {0}
IsBelow n (code.Text t) = Unit {0}
IsBelow n (code.List ids) = AllBelow n ids.items
IsBelow n (code.Object ms) = AllValuesBelow n ms.list.items

-- 32 bits count the parts of a form
abbrev pub IsCounted : CodeForm → Type 0
IsCounted code.Null = Unit {0}
IsCounted (code.Bool b) = Unit {0}
IsCounted (code.Number x) = Unit {0}
IsCounted (code.Text t) = Unit {0}
IsCounted (code.List ids) = length ids.items < 2 ^ 32
IsCounted (code.Object ms) = length ms.list.items < 2 ^ 32

-- an index of the members has the places of their names
abbrev pub IsIndexed : CodeForm → Type 0
IsIndexed code.Null = Unit {0}
IsIndexed (code.Bool b) = Unit {0}
IsIndexed (code.Number x) = Unit {0}
IsIndexed (code.Text t) = Unit {0}
IsIndexed (code.List ids) = Unit {0}
IsIndexed (code.Object ms) = IsIndexOf ms.list.items ms.index

-- the k-th node of this text: its parts come before it, and its bytes are cut between characters
pub record IsSound (s : List ℕ) (k : ℕ) (x : Node) : Type 0 where
  pub below : IsBelow k x.form
  pub counted : IsCounted x.form
  pub indexed : IsIndexed x.form
  pub ordered : x.first ≤ x.past
  pub within : x.past ≤ length s
  pub front : IsCharBoundary s x.first
  pub back : IsCharBoundary s x.past

abbrev pub AreSound : List ℕ → List Node → Type 0
AreSound s ns = (k : ℕ) (x : Node) → slice_get ns k ≡ Some x → IsSound s k x

abbrev pub nothing : Tree
nothing = node 0 0 null

abbrev pub there : List ℕ → (ℕ → Tree) → Option Node → Tree
there s f None = nothing
there s f (Some x) = made s f x

unfoldable pub tree_within : ℕ → List ℕ → List Node → ℕ → Tree
tree_within zero s ns k = nothing
tree_within (suc d) s ns k = there s (tree_within d s ns) (slice_get ns k)

-- the tree of a node
abbrev pub tree_of : List ℕ → List Node → ℕ → Tree
tree_of s ns k = tree_within (suc k) s ns k

-- the trees of the old nodes stand
pub record Keeps (s : List ℕ) (old new : List Node) : Type 0 where
  pub sound : AreSound s new
  pub longer : length old ≤ length new
  pub same : (k : ℕ) → k < length old → tree_of s new k ≡ tree_of s old k
