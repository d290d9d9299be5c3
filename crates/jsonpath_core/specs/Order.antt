-- The order of nodes in a document.
use Rattle.std.specs.Prelude.{ℕ, ◌<◌, ◌≤◌, List, [], ◌∷◌}
use Rattle.json_subset.specs.Tree.{Tree, node}

-- the places of a node's first byte, and of the byte behind its last
abbrev pub begins_at : Tree → ℕ
begins_at (node first past f) = first

abbrev pub ends_at : Tree → ℕ
ends_at (node first past f) = past

-- From this place on, the nodes stand one behind another, each of one byte or more.
abbrev pub InOrder : ℕ → List Tree → Type 0
InOrder from [] = Unit {0}
InOrder from (t ∷ ts) = (from ≤ begins_at t) × (begins_at t < ends_at t) × InOrder (ends_at t) ts
