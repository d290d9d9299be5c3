-- Fields, and what they stand for.
use Rattle.std.specs.Prelude.{ℕ, ◌==◌, nat_le, Bool, true, false, not, ◌&&◌, ◌||◌, List, [], ◌∷◌, length, codes, Option, Some, None, if◌then◌else◌}
use Rattle.std.specs.List.{slice_split, list_all}
use Rattle.std.specs.Option.{option_and_then, option_map}
use Rattle.std.specs.Char.{is_digit}
use Rattle.std.specs.Str.{bytes_eq}
use Rattle.std.specs.Str.Lossy.{utf8_valid_len}
use Rattle.percent_encoding.specs.Percent.{percent_decode}

-- the fields of a line, parted by one space
abbrev pub parts_of : List ℕ → List (List ℕ)
parts_of line = slice_split (λ b. b == 32) line

abbrev pub is_graphic : ℕ → Bool
is_graphic b = nat_le 33 b && nat_le b 126

abbrev pub begins_hex : List ℕ → Bool
begins_hex [] = false
begins_hex (high ∷ []) = false
begins_hex (high ∷ low ∷ rest) = is_digit high 16 && is_digit low 16

-- two hexadecimal digits follow each `%`
abbrev pub are_escapes : List ℕ → Bool
are_escapes [] = true
are_escapes (b ∷ rest) = (not (b == 37) || begins_hex rest) && are_escapes rest

-- What a field stands for, where it has its form: `~` is empty, and else it has a byte, each of 33 to 126, where `%` and
-- two hexadecimal digits stand for one byte.
unfoldable pub decoded : List ℕ → Option (List ℕ)
decoded field =
    if bytes_eq field (codes "~") then Some []
    else if not (length field == 0) && list_all is_graphic field && are_escapes field then Some (percent_decode field)
    else None

abbrev pub before_all : List ℕ → Option (List (List ℕ)) → Option (List (List ℕ))
before_all field rest = option_map (λ fields. field ∷ fields) rest

-- what fields stand for, where each has its form
abbrev pub all_decoded : List (List ℕ) → Option (List (List ℕ))
all_decoded [] = Some []
all_decoded (part ∷ parts) = option_and_then (λ field. before_all field (all_decoded parts)) (decoded part)

-- what the fields of a line stand for
abbrev pub fields_of : List ℕ → Option (List (List ℕ))
fields_of line = all_decoded (parts_of line)

abbrev pub is_utf8 : List ℕ → Bool
is_utf8 field = utf8_valid_len field == length field

-- a text is UTF-8
abbrev pub text_of : List ℕ → Option (List ℕ)
text_of field = if is_utf8 field then Some field else None
