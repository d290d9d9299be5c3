-- Where the keys of a map stand.
use Rattle.std.specs.Prelude.{◌≡◌, ℕ, suc, List, Option, Some, None, option_map, String, if◌then◌else◌}
use Rattle.std.specs.Str.{bytes_eq}
use Rattle.std.specs.BTreeMap.{BTreeMap, get_by_text}
use Rattle.std.specs.declared.alloc.Global.{Global}
use Rattle.vtl_values.specs.Val.{Entries, no_entries, entry}

-- the place of the first entry of this key
abbrev pub place_of : List ℕ → Entries → Option ℕ
place_of k no_entries = None
place_of k (entry j u es) = if bytes_eq j k then Some 0 else option_map suc (place_of k es)

-- each key has its place
abbrev pub ArePlaced : Entries → BTreeMap (String Global) ℕ → Type 0
ArePlaced es places = (k : List ℕ) → get_by_text places k ≡ place_of k es

-- the places that are kept beside entries: none, or that of each key
abbrev pub IsIndexed : Entries → Option (BTreeMap (String Global) ℕ) → Type 0
IsIndexed es None = Unit {0}
IsIndexed es (Some places) = ArePlaced es places
