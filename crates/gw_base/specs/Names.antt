-- What names may be, and when two are the same.
use Rattle.std.specs.Prelude.{ℕ, ◌==◌, ◌<◌, nat_le, Bool, false, not, ◌&&◌, ◌||◌, List, [], ◌∷◌, length, map, All}
use Rattle.std.specs.Char.{to_ascii_lowercase}
use Rattle.std.specs.List.{list_all}
use Rattle.std.specs.Str.{bytes_eq}

-- each byte is a character of ASCII
abbrev pub is_ascii : List ℕ → Type 0
is_ascii text = All (λ b. b < 128) text

abbrev pub is_letter : ℕ → Bool
is_letter b = (nat_le 97 b && nat_le b 122) || (nat_le 65 b && nat_le b 90)

abbrev pub is_digit : ℕ → Bool
is_digit b = nat_le 48 b && nat_le b 57

-- an ASCII letter, a digit, `_` or `-`
unfoldable pub is_name_byte : ℕ → Bool
is_name_byte b = is_letter b || is_digit b || b == 95 || b == 45

-- begins with a letter or a digit
abbrev pub begins_name : List ℕ → Bool
begins_name [] = false
begins_name (b ∷ bs) = is_letter b || is_digit b

-- a name: 1 to 64 of these bytes, the first a letter or a digit
unfoldable pub is_name : List ℕ → Bool
is_name text = begins_name text && nat_le (length text) 64 && list_all is_name_byte text

-- a byte of a token (RFC 9110, section 5.6.2): a letter, a digit, or one of !#$%&'*+-.^_`|~
unfoldable pub is_token_byte : ℕ → Bool
is_token_byte b = is_letter b || is_digit b || b == 33 || (nat_le 35 b && nat_le b 39) || b == 42 || b == 43 || b == 45 || b == 46 || (nat_le 94 b && nat_le b 96) || b == 124 || b == 126

-- the name of a header field
unfoldable pub is_token : List ℕ → Bool
is_token text = not (length text == 0) && list_all is_token_byte text

-- a name in lower case
abbrev pub lower : List ℕ → List ℕ
lower x = map to_ascii_lowercase x

-- the names of header fields are equal without regard to ASCII case (RFC 9110, section 5.1)
unfoldable pub same_name : List ℕ → List ℕ → Bool
same_name x y = bytes_eq (lower x) (lower y)
