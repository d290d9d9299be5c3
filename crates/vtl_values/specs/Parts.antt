-- Parts of a value: members, items, and what a loop goes over.
use Rattle.std.specs.Prelude.{ℕ, suc, ℤ, pos, negsuc, Bool, List, [], ◌∷◌, length, take, slice_get, Option, Some, None, if◌then◌else◌}
use Rattle.std.specs.Prelude as std
use Rattle.std.specs.Str.{bytes_eq}
use Rattle.vtl_values.specs.Val.{Val, Entries, null, boolean, whole, number, text, list, range, map, no_entries, entry, vals_list}
use Rattle.vtl_values.specs.Ranges.{span, distance}
use Rattle.vtl_values.specs.Operations.{is_i64}

abbrev pub entry_keys : Entries → List (List ℕ)
entry_keys no_entries = []
entry_keys (entry k v es) = k ∷ entry_keys es

abbrev pub entry_values : Entries → List Val
entry_values no_entries = []
entry_values (entry k v es) = v ∷ entry_values es

-- the items of a list, and of anything else none
abbrev pub list_items : Val → List Val
list_items null = []
list_items (boolean b) = []
list_items (whole n) = []
list_items (number t) = []
list_items (text t) = []
list_items (list vs) = vals_list vs
list_items (range a b) = []
list_items (map es) = []

-- the keys of a map, and of anything else none
abbrev pub map_keys : Val → List (List ℕ)
map_keys null = []
map_keys (boolean b) = []
map_keys (whole n) = []
map_keys (number t) = []
map_keys (text t) = []
map_keys (list vs) = []
map_keys (range a b) = []
map_keys (map es) = entry_keys es

-- the values of a map, and of anything else none
abbrev pub map_values : Val → List Val
map_values null = []
map_values (boolean b) = []
map_values (whole n) = []
map_values (number t) = []
map_values (text t) = []
map_values (list vs) = []
map_values (range a b) = []
map_values (map es) = entry_values es

-- the value of the first entry with this key, or null
abbrev pub found : List ℕ → Entries → Val
found x no_entries = null
found x (entry k v es) = if bytes_eq k x then v else found x es

-- the value of this key of a map; of anything else null
unfoldable pub member_of : List ℕ → Val → Val
member_of x null = null
member_of x (boolean b) = null
member_of x (whole n) = null
member_of x (number t) = null
member_of x (text t) = null
member_of x (list vs) = null
member_of x (range a b) = null
member_of x (map es) = found x es

abbrev pub or_null : Option Val → Val
or_null None = null
or_null (Some v) = v

-- the item at this place, counted from 0; null where there is none
abbrev pub placed : ℤ → List Val → Val
placed (pos n) vs = or_null (slice_get vs n)
placed (negsuc n) vs = null

-- the items of a list or range, and of anything else none
abbrev pub items_in : Val → List Val
items_in null = []
items_in (boolean b) = []
items_in (whole n) = []
items_in (number t) = []
items_in (text t) = []
items_in (list vs) = vals_list vs
items_in (range a b) = std.map whole (span a b)
items_in (map es) = []

-- a list or range at a whole index, a map at a text
unfoldable pub item_at : Val → Val → Val
item_at null v = null
item_at (boolean b) v = null
item_at (whole n) v = placed n (items_in v)
item_at (number t) v = null
item_at (text t) v = member_of t v
item_at (list vs) v = null
item_at (range a b) v = null
item_at (map es) v = null

-- the most turns of a loop
unfoldable pub most_turns : ℕ
most_turns = 1000

-- the items of a list or range, or the values of a map
abbrev pub all_items : Val → List Val
all_items null = []
all_items (boolean b) = []
all_items (whole n) = []
all_items (number t) = []
all_items (text t) = []
all_items (list vs) = vals_list vs
all_items (range a b) = std.map whole (span a b)
all_items (map es) = entry_values es

-- what a loop goes over
unfoldable pub loop_items : Val → List Val
loop_items v = take most_turns (all_items v)

abbrev pub within_i64 : ℕ → Option ℤ
within_i64 n = if is_i64 (pos n) then Some (pos n) else None

-- how many items a list or range has, or entries a map; none of anything else, or out of range
unfoldable pub size_of : Val → Option ℤ
size_of null = None
size_of (boolean b) = None
size_of (whole n) = None
size_of (number t) = None
size_of (text t) = None
size_of (list vs) = within_i64 (length (vals_list vs))
size_of (range a b) = within_i64 (suc (distance a b))
size_of (map es) = within_i64 (length (entry_keys es))
