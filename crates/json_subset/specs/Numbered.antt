-- Members of the program's nodes, by name.
use Rattle.std.specs.Prelude.{◌≡◌, ℕ, suc, List, [], ◌∷◌, ◌++◌, length, map, Bool, Option, Some, None, option_map, is_some, if◌then◌else◌, String}
use Rattle.std.specs.BTreeMap.{BTreeMap, get_by_text}
use Rattle.std.specs.Str.{bytes_eq}
use Rattle.std.specs.String.{string_bytes}
use Rattle.std.specs.declared.alloc.Global.{Global}

-- the number of the first member of this name
abbrev pub number_named : List (String Global × ℕ) → List ℕ → Option ℕ
number_named [] q = None
number_named (m ∷ ms) q = if bytes_eq (string_bytes m.0) q then Some m.1 else number_named ms q

abbrev pub names_in : List (String Global × ℕ) → List (List ℕ)
names_in ms = map (λ m. string_bytes m.0) ms

-- the place of the first of these names that is this one
abbrev pub place_named : List (List ℕ) → List ℕ → Option ℕ
place_named [] q = None
place_named (x ∷ xs) q = if bytes_eq x q then Some 0 else option_map suc (place_named xs q)

-- whether an index has this name
abbrev pub has_name : BTreeMap (String Global) ℕ → List ℕ → Bool
has_name index q = is_some (get_by_text index q)

-- an index has the places of these names, and no other name
abbrev pub HasPlaces : List (List ℕ) → BTreeMap (String Global) ℕ → Type 0
HasPlaces names index = (q : List ℕ) → get_by_text index q ≡ place_named names q

-- this name goes behind so many others
abbrev pub IsEntered : ℕ → List ℕ → BTreeMap (String Global) ℕ → BTreeMap (String Global) ℕ → Type 0
IsEntered count name old new = (names : List (List ℕ)) → length names ≡ count → HasPlaces names old → HasPlaces (names ++ name ∷ []) new

-- an index of these members, where one is kept, has the places of their names
abbrev pub IsIndexOf : List (String Global × ℕ) → Option (BTreeMap (String Global) ℕ) → Type 0
IsIndexOf ms None = Unit {0}
IsIndexOf ms (Some index) = HasPlaces (names_in ms) index
