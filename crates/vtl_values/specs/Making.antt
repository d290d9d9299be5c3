-- Lists, maps and ranges that are made: null where they would be deeper than 64.
use Rattle.std.specs.Prelude.{ℕ, Bool, false, ◌||◌, List, [], ◌∷◌, nat_le, if◌then◌else◌}
use Rattle.std.specs.Str.{bytes_eq}
use Rattle.vtl_values.specs.Val.{Val, Entries, null, list, range, map, no_entries, entry, vals_of, depth}
use Rattle.vtl_values.specs.Truth.{is_null}
use Rattle.vtl_values.specs.Printed.{printed}
use Rattle.vtl_values.specs.Operations.{of_wholes}

-- the value, or null where it is deeper than 64
abbrev pub shallow : Val → Val
shallow v = if nat_le (depth v) 64 then v else null

unfoldable pub listed : List Val → Val
listed vs = shallow (list (vals_of vs))

-- entries with one more: in the first place of its key, or at the end
abbrev pub entered : Entries → List ℕ → Val → Entries
entered no_entries k v = entry k v no_entries
entered (entry j u es) k v = if bytes_eq j k then entry k v es else entry j u (entered es k v)

-- these entries, and then the pairs in order, their keys printed
abbrev pub gathered : Entries → List (Val × Val) → Entries
gathered es [] = es
gathered es (p ∷ ps) = gathered (entered es (printed p.0) p.1) ps

abbrev pub has_null_key : List (Val × Val) → Bool
has_null_key [] = false
has_null_key (p ∷ ps) = is_null p.0 || has_null_key ps

unfoldable pub mapped : List (Val × Val) → Val
mapped ps = if has_null_key ps then null else shallow (map (gathered no_entries ps))

unfoldable pub ranged : Val → Val → Val
ranged a b = of_wholes range null a b
