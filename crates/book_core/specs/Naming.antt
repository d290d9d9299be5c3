-- The values of keys, while one is put.
use Rattle.std.specs.Prelude.{ℕ, List, [], Option, Some, None, if◌then◌else◌}
use Rattle.std.specs.Map.{update}
use Rattle.std.specs.Str.{bytes_eq}
use Rattle.keeper_core.specs.declared.rows.Row.{Row}
use Rattle.keeper_core.specs.declared.rows.Row.TheVariants.{Key}
use Rattle.key_index.specs.Indexes.{Index}

-- the key and the value of a key's row
abbrev pub name_in : Row → List ℕ
name_in (Key row) = row.key
name_in row = []

abbrev pub value_in : Row → List ℕ
value_in (Key row) = row.value
value_in row = []

-- the value that a key had before is taken from it, unless it is the value that it has
abbrev pub left_by : Option (List ℕ) → List ℕ → Index → Index
left_by None value index v = index v
left_by (Some old) value index v = if bytes_eq old value then index v else update bytes_eq index old None v
