-- The order in which the paths of a tree are tried.
use Rattle.std.specs.Prelude.{◌≡◌, ℕ, ◌<◌, ◌≤◌, List, length, Contains, slice_index_or}
use Rattle.resource_tree.specs.declared.order.Entry.{Entry}
use Rattle.resource_tree.specs.Nodes.{IsTriedBefore}

-- no path is tried later than one behind it
abbrev pub AreTriedInOrder : List Entry → Type 0
AreTriedInOrder entries = (i j : ℕ) (d : Entry) → i ≤ j → j < length entries → IsTriedBefore (slice_index_or entries i d).parts.now (slice_index_or entries j d).parts.now

-- the path of this index is one of them
abbrev pub HasPath : List Entry → ℕ → Type 0
HasPath entries path = (entry : Entry) × Contains entries entry × (entry.path ≡ path)
