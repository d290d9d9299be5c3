-- Reading the text of a string (RFC 8259, section 7).
use Rattle.std.specs.Prelude.{ℕ, zero, suc, ◌+◌, ◌-◌, ◌*◌, Bool, ◌&&◌, ◌||◌, not, List, [], ◌∷◌, ◌++◌, length, Option, Some, None, Result, Ok, Err, nat_le, ◌==◌, if◌then◌else◌}
use Rattle.std.specs.Char.{encode_utf8}
use Rattle.json_subset.specs.declared.fault.JsonFault.{JsonFault}
use Rattle.json_subset.specs.declared.fault.JsonFault.TheVariants.{Syntax}
use Rattle.json_subset.specs.Scan.{◌>>=◌, Read, place, word, is_digit}

-- a byte that stands for itself: no control byte, quote or backslash
abbrev pub is_plain : ℕ → Bool
is_plain b = nat_le 32 b && not (b == 34) && not (b == 92)

-- the plain bytes at the front, and what follows them
abbrev pub run : List ℕ → List ℕ
run [] = []
run (b ∷ bs) = if is_plain b then b ∷ run bs else []

abbrev pub past_run : List ℕ → List ℕ
past_run [] = []
past_run (b ∷ bs) = if is_plain b then past_run bs else b ∷ bs

-- the value of a hexadecimal digit
abbrev pub hex : ℕ → Option ℕ
hex b =
    if is_digit b then Some (b - 48)
    else if nat_le 97 b && nat_le b 102 then Some (b - 87)
    else if nat_le 65 b && nat_le b 70 then Some (b - 55)
    else None

abbrev pub hex_as : ℕ → ℕ → ℕ → ℕ → List ℕ → Option ℕ → Read ℕ
hex_as n low high b bs None = Err (Syntax (place n (b ∷ bs)))
hex_as n low high b bs (Some v) = if nat_le low v && nat_le v high then Ok (v, bs) else Err (Syntax (place n (b ∷ bs)))

-- a hexadecimal digit of a value from low to high
abbrev pub hex_digit : ℕ → ℕ → ℕ → List ℕ → Read ℕ
hex_digit n low high [] = Err (Syntax n)
hex_digit n low high (b ∷ bs) = hex_as n low high b bs (hex b)

abbrev pub four : ℕ → ℕ → ℕ → ℕ → ℕ
four a b c d = a * 4096 + b * 256 + c * 16 + d

-- the last two of four hexadecimal digits
abbrev pub unit_end : ℕ → ℕ → ℕ → List ℕ → Read ℕ
unit_end n a b bs = do
  c ← hex_digit n 0 15 bs
  d ← hex_digit n 0 15 c.1
  Ok (four a b c.0 d.0, d.1)

-- a unit of UTF-16 that may stand first: D800 to DBFF, the high surrogates, or none of D800 to DFFF
abbrev pub first_unit : ℕ → List ℕ → Read ℕ
first_unit n bs = do
  a ← hex_digit n 0 15 bs
  b ← hex_digit n 0 (if a.0 == 13 then 11 else 15) a.1
  unit_end n a.0 b.0 b.1

-- a low surrogate, DC00 to DFFF
abbrev pub low_unit : ℕ → List ℕ → Read ℕ
low_unit n bs = do
  a ← hex_digit n 13 13 bs
  b ← hex_digit n 12 15 a.1
  unit_end n a.0 b.0 b.1

abbrev pub is_high : ℕ → Bool
is_high u = nat_le 55296 u && nat_le u 56319

-- the character of a surrogate pair
abbrev pub pair_char : ℕ → ℕ → ℕ
pair_char u v = 65536 + (u - 55296) * 1024 + (v - 56320)

-- one step of a string: its closing quote, or the text that an escape adds
pub data Step : Type 0 where
  closed : List ℕ → Step
  adds : List ℕ → List ℕ → Step

-- behind a high surrogate: its other half
abbrev pub second_half : ℕ → ℕ → List ℕ → Result Step JsonFault
second_half n u bs = do
  k ← word n (92 ∷ 117 ∷ []) bs
  v ← low_unit n k
  Ok (adds (encode_utf8 (pair_char u v.0)) v.1)

-- behind a backslash and `u`
abbrev pub unicode : ℕ → List ℕ → Result Step JsonFault
unicode n bs = do
  u ← first_unit n bs
  if is_high u.0 then second_half n u.0 u.1 else Ok (adds (encode_utf8 u.0) u.1)

-- the byte that a short escape stands for
abbrev pub short : ℕ → Option ℕ
short b =
    if (b == 34) || (b == 92) || (b == 47) then Some b
    else if b == 98 then Some 8
    else if b == 102 then Some 12
    else if b == 110 then Some 10
    else if b == 114 then Some 13
    else if b == 116 then Some 9
    else None

abbrev pub escape_as : ℕ → ℕ → List ℕ → Option ℕ → Result Step JsonFault
escape_as n b bs (Some c) = Ok (adds (c ∷ []) bs)
escape_as n b bs None = Err (Syntax (place n (b ∷ bs)))

-- behind a backslash
abbrev pub escape : ℕ → List ℕ → Result Step JsonFault
escape n [] = Err (Syntax n)
escape n (b ∷ bs) = if b == 117 then unicode n bs else escape_as n b bs (short b)

-- behind plain bytes
abbrev pub at_stop : ℕ → List ℕ → Result Step JsonFault
at_stop n [] = Err (Syntax n)
at_stop n (b ∷ bs) =
    if b == 34 then Ok (closed bs)
    else if b == 92 then escape n bs
    else Err (Syntax (place n (b ∷ bs)))

abbrev pub on_step : (List ℕ → List ℕ → Read (List ℕ)) → List ℕ → Step → Read (List ℕ)
on_step go text (closed rest) = Ok (text, rest)
on_step go text (adds t rest) = go (text ++ t) rest

-- the text up to the closing quote behind the text before, in at most so many steps
unfoldable pub text_from : ℕ → List ℕ → ℕ → List ℕ → Read (List ℕ)
text_from n before zero bs = Err (Syntax (place n bs))
text_from n before (suc f) bs = do
  s ← at_stop n (past_run bs)
  on_step (λ t rest. text_from n t f rest) (before ++ run bs) s

-- the text behind an opening quote
abbrev pub string : ℕ → List ℕ → Read (List ℕ)
string n bs = text_from n [] (length bs + 1) bs
