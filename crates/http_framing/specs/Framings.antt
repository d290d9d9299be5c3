-- How a head says where its body ends (RFC 9112, sections 3.2, 6.1 to 6.3).
use Rattle.std.specs.Prelude.{ℕ, ◌^◌, Bool, not, ◌&&◌, ◌||◌, List, [], ◌∷◌, map, length, if◌then◌else◌, nat_lt, nat_le, ◌==◌, codes, bytes_eq}
use Rattle.std.specs.List.{list_all, filter}
use Rattle.std.specs.Char.{is_ascii_digit, to_ascii_lowercase}
use Rattle.std.specs.Str.Parse.{digits_value}
use Rattle.http_framing.specs.declared.framing.Framing.{Framing}
use Rattle.http_framing.specs.declared.framing.Framing.TheVariants.{TooMany, Wrong, Absent, Known, Chunked}

-- a field's name and value, as they are written
abbrev pub Header : Type 0
Header = List ℕ × List ℕ

-- equal in any ASCII case
unfoldable pub eq_ignore_case : List ℕ → List ℕ → Bool
eq_ignore_case a b = bytes_eq (map to_ascii_lowercase a) (map to_ascii_lowercase b)

-- one digit or more, of a number below 2 ^ 64
abbrev pub is_number : List ℕ → Bool
is_number e = nat_lt 0 (length e) && (list_all is_ascii_digit e && nat_lt (digits_value 10 e) (2 ^ 64))

-- a number of at most 19 digits (each of these is below 2 ^ 64)
abbrev pub known_length : List ℕ → Framing
known_length value = if nat_le (length value) 19 && is_number value then Known (digits_value 10 value) else Wrong

-- what one field says of the length: `transfer-encoding` is `chunked`, and stands in no head of HTTP/1.0
unfoldable pub length_said : Bool → Header → Framing
length_said http10 h =
    if eq_ignore_case h.0 (codes "content-length") then known_length h.1
    else if eq_ignore_case h.0 (codes "transfer-encoding") then (if not http10 && bytes_eq h.1 (codes "chunked") then Chunked else Wrong)
    else Absent

-- whether a field has this name, in any ASCII case
abbrev pub is_named : List ℕ → Header → Bool
is_named name h = eq_ignore_case h.0 name

-- whether a field says something of the length
abbrev pub is_length : Header → Bool
is_length h = is_named (codes "content-length") h || is_named (codes "transfer-encoding") h

-- what the fields that say something of the length say: there is one at most
abbrev pub said_by : Bool → List Header → Framing
said_by http10 [] = Absent
said_by http10 (h ∷ []) = length_said http10 h
said_by http10 (h ∷ i ∷ more) = Wrong

-- what all fields say of the length
abbrev pub lengths_said : Bool → List Header → Framing
lengths_said http10 fields = said_by http10 (filter is_length fields)

-- how many fields are named `host`
abbrev pub hosts : List Header → ℕ
hosts fields = length (filter (is_named (codes "host")) fields)

-- a request's whole head is tested for its number of fields, then for its one host (of HTTP/1.1) and its lengths
abbrev pub framing_of : Bool → List Header → Framing
framing_of http10 fields =
    if nat_lt 100 (length fields) then TooMany
    else if http10 || hosts fields == 1 then lengths_said http10 fields
    else Wrong

-- a reply's whole head is tested for its number of fields, then for its status and its lengths
abbrev pub reply_framing_of : Bool → ℕ → List Header → Framing
reply_framing_of http10 status fields =
    if nat_lt 100 (length fields) then TooMany
    else if nat_lt status 100 then Wrong
    else lengths_said http10 fields

-- what two fields say together: two that say something are wrong
abbrev pub joined : Framing → Framing → Framing
joined Absent f = f
joined f Absent = f
joined f g = Wrong
