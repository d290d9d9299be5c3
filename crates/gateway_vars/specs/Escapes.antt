-- Texts with escapes.
use Rattle.std.specs.Prelude.{ℕ, zero, suc, ◌/◌, ◌%◌, ◌==◌, ◌&&◌, nat_le, List, [], ◌∷◌, ◌++◌, Bool, true, false, Option, Some, None, if◌then◌else◌}
use Rattle.std.specs.List.{flat_map}
use Rattle.std.specs.Char.{encode_utf8}
use Rattle.std.specs.Char.Escape.{encode_utf16}
use Rattle.std.specs.Fmt.{digit_glyph}
use Rattle.std.specs.Str.{chars}

-- the last hexadecimal digits of a number, so many, in upper or in lower case
abbrev pub hex_digits : Bool → ℕ → ℕ → List ℕ
hex_digits upper zero n = []
hex_digits upper (suc count) n = hex_digits upper count (n / 16) ++ digit_glyph upper (n % 16) ∷ []

-- `\u` and four digits
abbrev pub unit_escape : Bool → ℕ → List ℕ
unit_escape upper unit = 92 ∷ 117 ∷ hex_digits upper 4 unit

-- what stands behind the backslash: `"`, `'`, `\` and `/` for themselves, `b`, `t`, `n`, `f` and `r` for 8, 9, 10, 12 and 13
abbrev pub script_letter : ℕ → Option ℕ
script_letter c =
    if c == 34 then Some 34 else if c == 39 then Some 39 else if c == 92 then Some 92 else if c == 47 then Some 47
    else if c == 8 then Some 98 else if c == 9 then Some 116 else if c == 10 then Some 110
    else if c == 12 then Some 102 else if c == 13 then Some 114 else None

-- any other character: from 32 to 127 it stays; else its units of UTF-16 (RFC 2781, section 2.1), in upper case
abbrev pub script_other : ℕ → List ℕ
script_other c = if nat_le 32 c && nat_le c 127 then c ∷ [] else flat_map (unit_escape true) (encode_utf16 c)

abbrev pub script_by : ℕ → Option ℕ → List ℕ
script_by c (Some letter) = 92 ∷ letter ∷ []
script_by c None = script_other c

unfoldable pub script_char : ℕ → List ℕ
script_char c = script_by c (script_letter c)

-- $util.escapeJavaScript of a text
unfoldable pub script_text : List ℕ → List ℕ
script_text text = flat_map script_char (chars text)

-- RFC 8259, section 7: what has to be escaped in a string, by the short forms where there are any
abbrev pub json_letter : ℕ → Option ℕ
json_letter c =
    if c == 34 then Some 34 else if c == 92 then Some 92 else if c == 8 then Some 98 else if c == 9 then Some 116
    else if c == 10 then Some 110 else if c == 12 then Some 102 else if c == 13 then Some 114 else None

abbrev pub json_other : ℕ → List ℕ
json_other c = if nat_le 32 c then encode_utf8 c else unit_escape false c

abbrev pub json_by : ℕ → Option ℕ → List ℕ
json_by c (Some letter) = 92 ∷ letter ∷ []
json_by c None = json_other c

unfoldable pub json_char : ℕ → List ℕ
json_char c = json_by c (json_letter c)

-- a text as a JSON string, quotes and all
unfoldable pub json_string : List ℕ → List ℕ
json_string text = 34 ∷ (flat_map json_char (chars text) ++ 34 ∷ [])
