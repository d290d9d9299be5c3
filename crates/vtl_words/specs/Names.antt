-- Names by their bytes.
use Rattle.std.specs.Prelude.{ℕ, suc, true, false, List, [], ◌∷◌, Option, Some, None, bytes_eq}
use Rattle.std.specs.Option.{option_map}
use Rattle.std.specs.Cmp.Lexicographic.{slice_cmp}
use Rattle.std.specs.Ordering.{nat_cmp}
use Rattle.std.specs.Global.{Vec}
use Rattle.std.specs.BTreeMap.{BTreeMap, get_by}

-- the number at the key that has these bytes
abbrev pub get_by_bytes : BTreeMap (Vec ℕ) ℕ → List ℕ → Option ℕ
get_by_bytes m q = get_by (λ k. slice_cmp nat_cmp q k.items) m

-- the place of the first name that is this one
abbrev pub place_of : List (List ℕ) → List ℕ → Option ℕ
place_of [] x = None
place_of (w ∷ ws) x = elim (bytes_eq w x) [ true ↦ Some 0 | false ↦ option_map suc (place_of ws x) ]
