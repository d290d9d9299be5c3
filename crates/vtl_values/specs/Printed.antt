-- How values are printed: lists and maps as Java's collections are.
use Rattle.std.specs.Prelude.{ℕ, ℤ, Bool, true, false, List, [], ◌∷◌, ◌++◌, codes}
use Rattle.std.specs.Prelude as std
use Rattle.std.specs.Fmt.{signed_decimal}
use Rattle.vtl_values.specs.Val.{Val, Vals, Entries, null, boolean, whole, number, text, list, range, map, no_vals, val, no_entries, entry}
use Rattle.vtl_values.specs.Ranges.{span}

abbrev pub truth : Bool → List ℕ
truth true = codes "true"
truth false = codes "false"

-- each of these behind a comma and a space
abbrev pub more : List (List ℕ) → List ℕ
more [] = []
more (t ∷ ts) = codes ", " ++ t ++ more ts

-- these with a comma and a space between
abbrev pub joined : List (List ℕ) → List ℕ
joined [] = []
joined (t ∷ ts) = t ++ more ts

abbrev mutual
  pub printed : Val → List ℕ
  printed null = codes "null"
  printed (boolean b) = truth b
  printed (whole n) = signed_decimal n
  printed (number t) = t
  printed (text t) = t
  printed (list vs) = codes "[" ++ joined (all_printed vs) ++ codes "]"
  printed (range a b) = codes "[" ++ joined (std.map signed_decimal (span a b)) ++ codes "]"
  printed (map es) = codes "{" ++ joined (entries_printed es) ++ codes "}"

  pub all_printed : Vals → List (List ℕ)
  all_printed no_vals = []
  all_printed (val v vs) = printed v ∷ all_printed vs

  pub entries_printed : Entries → List (List ℕ)
  entries_printed no_entries = []
  entries_printed (entry k v es) = (k ++ codes "=" ++ printed v) ∷ entries_printed es
