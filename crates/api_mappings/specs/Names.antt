-- Names of a definition.
use Rattle.std.specs.Prelude.{ℕ, ◌==◌, nat_le, Bool, true, false, not, ◌&&◌, ◌||◌, List, [], ◌∷◌, length, codes, if◌then◌else◌}
use Rattle.std.specs.List.{list_all}
use Rattle.gw_base.specs.Names.{is_letter, is_name_byte, same_name}

-- the name of a parameter of a path: 1 to 64 of these bytes
unfoldable pub is_path_name : List ℕ → Bool
is_path_name text = not (length text == 0) && nat_le (length text) 64 && list_all is_name_byte text

-- the headers that the gateway alone writes: no mapping is onto these
unfoldable pub is_own_header : List ℕ → Bool
is_own_header name =
    same_name name (codes "host") || same_name name (codes "connection") || same_name name (codes "content-length")
    || same_name name (codes "transfer-encoding") || same_name name (codes "x-gateway-cause")

-- identifiers parted by dots, each a letter and then letters, digits, `_` and `-`: the rest of one, at whose front another begins or not
abbrev pub dotted_from : Bool → List ℕ → Bool
dotted_from true [] = false
dotted_from true (b ∷ bs) = is_letter b && dotted_from false bs
dotted_from false [] = true
dotted_from false (b ∷ bs) = if b == 46 then dotted_from true bs else (is_name_byte b && dotted_from false bs)

abbrev pub is_dotted : List ℕ → Bool
is_dotted text = dotted_from true text
