-- Places of faults, as JSON Pointers (RFC 6901).
use Rattle.std.specs.Prelude.{ℕ, List, ◌∷◌, ◌++◌, codes, chars, nat_eq, if◌then◌else◌}
use Rattle.std.specs.List.{flat_map}
use Rattle.std.specs.Char.{encode_utf8}
use Rattle.api_parts.specs.declared.fault.ApiFault.{ApiFault}

-- a character of a name, as a pointer writes it
abbrev pub pointer_char : ℕ → List ℕ
pointer_char c = if nat_eq c 126 then codes "~0" else if nat_eq c 47 then codes "~1" else encode_utf8 c

unfoldable pub pointer_name : List ℕ → List ℕ
pointer_name name = flat_map pointer_char (chars name)

-- a place within a member's value, as the object sees it
abbrev pub below : List ℕ → List ℕ → List ℕ
below name place = codes "/" ++ pointer_name name ++ place

-- a fault of a member's value, as the object sees it
abbrev pub fault_below : List ℕ → ApiFault → ApiFault
fault_below name e = record { place = below name e.place; cause = e.cause }
