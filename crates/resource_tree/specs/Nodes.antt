-- How the paths of a tree lie in its nodes.
use Rattle.std.specs.Prelude.{◌≡◌, ℕ, zero, suc, ◌+◌, ◌-◌, ◌<◌, ◌≤◌, ◌==◌, Bool, true, false, ◌&&◌, ◌||◌, List, [], ◌∷◌, length, take, slice_index, slice_index_or}
use Rattle.std.specs.Cmp.Lexicographic.{slice_cmp}
use Rattle.std.specs.Ordering.{nat_cmp, ordering_then, is_gt}
use Rattle.std.specs.Str.{bytes_eq}
use Rattle.std.specs.declared.cmp.Ordering.{Ordering}
use Rattle.resource_tree.specs.declared.part.Part.{Part}
use Rattle.resource_tree.specs.declared.part.Part.TheVariants.{Literal, Parameter, Greedy}
use Rattle.resource_tree.specs.declared.node.Node.{Node}
use Rattle.resource_tree.specs.Matching.{IsTable, rank, path_at}
use Rattle.resource_tree.specs.Sharing.{is_greedy}

-- the part takes this segment, which is not empty
abbrev pub takes : Part → List ℕ → Bool
takes (Literal text) segment = bytes_eq text segment
takes (Parameter name) segment = true
takes (Greedy name) segment = true

-- so many parts at the front take the segments at the front
abbrev pub takes_front : ℕ → List Part → List (List ℕ) → Bool
takes_front zero parts segments = true
takes_front (suc count) [] segments = false
takes_front (suc count) (part ∷ parts) [] = false
takes_front (suc count) (part ∷ parts) (segment ∷ segments) = takes part segment && takes_front count parts segments

-- the last part is a `{name+}`
abbrev pub ends_greedy : List Part → Bool
ends_greedy [] = false
ends_greedy (part ∷ []) = is_greedy part
ends_greedy (part ∷ next ∷ parts) = ends_greedy (next ∷ parts)

-- no segments are left behind the last part
abbrev pub takes_all : List Part → List (List ℕ) → Bool
takes_all parts segments = (length parts == length segments) || ends_greedy parts

-- the text of a literal
abbrev pub literal_of : Part → List ℕ
literal_of (Literal text) = text
literal_of (Parameter name) = []
literal_of (Greedy name) = []

-- parts in the order in which they are tried, literals by their text
abbrev pub part_cmp : Part → Part → Ordering
part_cmp first second = ordering_then (nat_cmp (rank first) (rank second)) (slice_cmp nat_cmp (literal_of first) (literal_of second))

-- the first path is tried no later than the second
abbrev pub IsTriedBefore : List Part → List Part → Type 0
IsTriedBefore first second = is_gt (slice_cmp part_cmp first second) ≡ false

abbrev pub node_at : List Node → ℕ → Node
node_at nodes at = slice_index_or nodes at (record { path = 0; depth = 0 })

abbrev pub depth_at : List Node → ℕ → ℕ
depth_at nodes at = (node_at nodes at).depth

-- the parts of a path that goes through the node
abbrev pub parts_at : List (List Part) → List Node → ℕ → List Part
parts_at paths nodes at = path_at paths (node_at nodes at).path

-- the path ends at the node
abbrev pub IsWhole : List (List Part) → List Node → ℕ → Type 0
IsWhole paths nodes at = depth_at nodes at ≡ length (parts_at paths nodes at)

-- Nodes in preorder:
pub record IsPreorder (paths : List (List Part)) (nodes : List Node) : Type 0 where
  -- a path goes through each, and is as long,
  pub path : (at : ℕ) → at < length nodes → (node_at nodes at).path < length paths
  pub depth : (at : ℕ) → at < length nodes → depth_at nodes at ≤ length (parts_at paths nodes at)
  -- the first stands for no more than one part,
  pub first : 0 < length nodes → depth_at nodes 0 ≤ 1
  -- each shares all parts but its last with the one before it,
  pub deeper : (at : ℕ) → at + 1 < length nodes → depth_at nodes (at + 1) ≤ depth_at nodes at + 1
  pub shared : (at : ℕ) → at + 1 < length nodes → take (depth_at nodes (at + 1) - 1) (parts_at paths nodes at) ≡ take (depth_at nodes (at + 1) - 1) (parts_at paths nodes (at + 1))
  -- and the paths come in the order in which they are tried.
  pub ordered : (first second : ℕ) → first < second → second < length nodes → IsTriedBefore (parts_at paths nodes first) (parts_at paths nodes second)

-- the path of this index ends at a node
pub record EndsAtNode (paths : List (List Part)) (nodes : List Node) (path : ℕ) : Type 0 where
  pub at : ℕ
  pub within : at < length nodes
  pub is : (node_at nodes at).path ≡ path
  pub whole : IsWhole paths nodes at

-- the nodes below the one at this place end there
pub record IsEndOf (nodes : List Node) (at end : ℕ) : Type 0 where
  pub after : at < end
  pub within : end ≤ length nodes
  pub below : (k : ℕ) → at < k → k < end → depth_at nodes at < depth_at nodes k
  pub behind : end < length nodes → depth_at nodes end ≤ depth_at nodes at

-- The nodes of a tree:
pub record IsIndex (paths : List (List Part)) (nodes : List Node) (ends_at : List ℕ) : Type 0 where
  pub preorder : IsPreorder paths nodes
  -- each path ends at one,
  pub covered : (path : ℕ) → path < length paths → EndsAtNode paths nodes path
  -- and of each it is known where those below it end.
  pub counted : length ends_at ≡ length nodes
  pub ends : (at : ℕ) → at < length nodes → IsEndOf nodes at (slice_index ends_at at)

-- what a tree keeps: paths that are built, and their nodes
pub record IsTreeOf (paths : List (List Part)) (nodes : List Node) (ends_at : List ℕ) : Type 0 where
  pub table : IsTable paths
  pub index : IsIndex paths nodes ends_at

-- A node at this depth of a path may stand behind the nodes:
pub record CanFollow (paths : List (List Part)) (nodes : List Node) (path depth : ℕ) : Type 0 where
  -- as the first,
  pub none : length nodes ≡ 0 → depth ≤ 1
  -- or sharing all parts but its last with the last.
  pub deeper : 0 < length nodes → depth ≤ depth_at nodes (length nodes - 1) + 1
  pub shared : 0 < length nodes → take (depth - 1) (parts_at paths nodes (length nodes - 1)) ≡ take (depth - 1) (path_at paths path)

-- the paths of all nodes are tried no later than this one
abbrev pub AreTriedBefore : List (List Part) → List Node → List Part → Type 0
AreTriedBefore paths nodes parts = (at : ℕ) → at < length nodes → IsTriedBefore (parts_at paths nodes at) parts

-- Nodes of one path were added to those of others:
pub record IsGrown (paths : List (List Part)) (old new : List Node) (path : ℕ) : Type 0 where
  pub preorder : IsPreorder paths new
  -- those before stay,
  pub longer : length old ≤ length new
  pub kept : (at : ℕ) → at < length old → node_at new at ≡ node_at old at
  -- and the path goes through the others.
  pub added : (at : ℕ) → length old ≤ at → at < length new → (node_at new at).path ≡ path
