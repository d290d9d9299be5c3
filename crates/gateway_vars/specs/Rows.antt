-- The table of writes, as the program keeps it.
use Rattle.std.specs.Prelude.{ℕ, ◌+◌, List, [], ◌∷◌, map, if◌then◌else◌}
use Rattle.vtl_eval.specs.Roots.{Kept, same_path}
use Rattle.vtl_values.specs.Val.{Val}
use Rattle.gateway_vars.specs.declared.table.Row.{Row}

abbrev pub row_of : Row → List (List ℕ) × Val
row_of r = (r.path, r.value)

abbrev pub kept_of : List Row → Kept
kept_of rows = map row_of rows

-- the place of the first row of this path, or their number
abbrev pub place_of : List Row → List (List ℕ) → ℕ
place_of [] path = 0
place_of (r ∷ rs) path = if same_path r.path path then 0 else place_of rs path + 1
