-- Keys by their values, beside the rows of the table of keys.
use Rattle.std.specs.Prelude.{◌≡◌, ◌↔◌, ℕ, Bool, false, List, [], ◌∷◌, find, Option, Some, None, IfSome, option_map, if◌then◌else◌}
use Rattle.std.specs.Str.{bytes_eq}
use Rattle.keeper_core.specs.Lists.{is_key, key_behind, put_by}
use Rattle.keeper_core.specs.declared.rows.KeyRow.{KeyRow}

-- the name of the key of a value, of pairs of these
abbrev pub key_in : List (List ℕ × List ℕ) → List ℕ → Option (List ℕ)
key_in [] value = None
key_in (entry ∷ entries) value = if bytes_eq value entry.0 then Some entry.1 else key_in entries value

-- an index gives the name of the key of each value
abbrev pub Index : Type 0
Index = List ℕ → Option (List ℕ)

abbrev pub is_this : List ℕ → Option (List ℕ) → Bool
is_this value None = false
is_this value (Some other) = bytes_eq other value

-- the key has this value now, and no more the one before
abbrev pub renamed : Index → Option (List ℕ) → List ℕ → List ℕ → Index
renamed index before value key v = if bytes_eq value v then Some key else if is_this v before then None else index v

-- the value of a key's row
abbrev pub value_of : List KeyRow → List ℕ → Option (List ℕ)
value_of rows key = option_map (λ row. row.value) (find (is_key key) rows)

-- the index has just the values of these rows, each with its key
abbrev pub Indexes : List KeyRow → Index → Type 0
Indexes rows index = (value key : List ℕ) → (index value ≡ Some key) ↔ (value_of rows key ≡ Some value)

-- no other key has the row's value
abbrev pub IsFree : Index → KeyRow → Type 0
IsFree index row = IfSome (index row.value) (λ key. key ≡ row.key)

-- LAW: an index that a row is put into has just the values of the rows with that row
abbrev pub IndexFollowsRows : Type 0
IndexFollowsRows =
    (rows : List KeyRow) (row : KeyRow) (index new : Index)
    → Indexes rows index → IsFree index row
    → ((v : List ℕ) → new v ≡ renamed index (value_of rows row.key) row.value row.key v)
    → Indexes (put_by (is_key row.key) (key_behind row.key) row rows) new
