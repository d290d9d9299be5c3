-- The characters of a text in UTF-8: lengths and places count them.
use Rattle.std.specs.Prelude.{ℕ, ℤ, pos, negsuc, Bool, List, [], ◌∷◌, length, map, drop, slice_range, nat_le, ◌&&◌, Option, Some, None, if◌then◌else◌}
use Rattle.std.specs.Option.{option_map}
use Rattle.std.specs.Str.{chars, encode_utf8_all}
use Rattle.std.specs.Char.{to_ascii_uppercase, to_ascii_lowercase}
use Rattle.vtl_texts.specs.Places.{cut}

-- how many characters a text has
unfoldable pub text_length : List ℕ → ℕ
text_length t = length (chars t)

-- a place counts from 0
abbrev pub place_of : ℤ → Option ℕ
place_of (pos n) = Some n
place_of (negsuc n) = None

-- the text from its character i on, counted from 0; none where i is negative or past the length
unfoldable pub substring_from : List ℕ → ℤ → Option (List ℕ)
substring_from t (negsuc i) = None
substring_from t (pos i) = if nat_le i (text_length t) then Some (encode_utf8_all (drop i (chars t))) else None

-- the text from its character i up to its character j; none where a place is negative or past the length, or i > j
unfoldable pub substring : List ℕ → ℤ → ℤ → Option (List ℕ)
substring t (negsuc i) j = None
substring t (pos i) (negsuc j) = None
substring t (pos i) (pos j) =
    if nat_le i j && nat_le j (text_length t) then Some (encode_utf8_all (slice_range (chars t) i j)) else None

-- how many characters stand before the first place of s; none where s stands nowhere
unfoldable pub index_of : List ℕ → List ℕ → Option ℕ
index_of t s = option_map (λ c. text_length c.0) (cut t s)

-- ASCII letters in the other case, and nothing else
unfoldable pub upper : List ℕ → List ℕ
upper t = map to_ascii_uppercase t

unfoldable pub lower : List ℕ → List ℕ
lower t = map to_ascii_lowercase t

-- a character up to 32
abbrev pub is_blank : ℕ → Bool
is_blank b = nat_le b 32

-- the text without the blanks at its start
abbrev pub without_start : List ℕ → List ℕ
without_start [] = []
without_start (b ∷ t) = if is_blank b then without_start t else b ∷ t

-- a byte before what is left of the rest: it goes where it is blank and nothing is left
abbrev pub kept_before : ℕ → List ℕ → List ℕ
kept_before b [] = if is_blank b then [] else b ∷ []
kept_before b (c ∷ t) = b ∷ c ∷ t

-- the text without the blanks at its end
abbrev pub without_end : List ℕ → List ℕ
without_end [] = []
without_end (b ∷ t) = kept_before b (without_end t)

-- the text without the blanks at both ends
unfoldable pub trimmed : List ℕ → List ℕ
trimmed t = without_end (without_start t)
