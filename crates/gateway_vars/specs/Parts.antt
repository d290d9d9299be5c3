-- The parts of a node, as values.
use Rattle.std.specs.Prelude.{◌≡◌, ℕ, List, Some}
use Rattle.json_subset.specs.Documents.{item_at, entry_at}
use Rattle.json_subset.specs.Tree.{Tree, Form}
use Rattle.vtl_values.specs.Val.{Val}
use Rattle.gateway_vars.specs.Documents.{value_of, member_row}

-- the value is that of the item at this place
abbrev pub IsItem : Form → ℕ → Val → Type 0
IsItem f i v = (u : Tree) × (item_at f i ≡ Some u) × (v ≡ value_of u)

-- the pair is the name and the value of the member at this place
abbrev pub IsMember : Form → ℕ → Val × Val → Type 0
IsMember f i m = (u : List ℕ × Tree) × (entry_at f i ≡ Some u) × (m ≡ member_row u)
