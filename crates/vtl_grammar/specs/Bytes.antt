-- Bytes, white space and identifiers (User Guide, "Variables": a letter, then letters, digits, `-` and `_`).
use Rattle.std.specs.Prelude.{ℕ, suc, max, Bool, true, false, ◌&&◌, ◌||◌, List, [], ◌∷◌, take, drop, Option, Some, None, nat_le, ◌==◌, bytes_eq}

abbrev pub is_letter : ℕ → Bool
is_letter b = (nat_le 65 b && nat_le b 90) || (nat_le 97 b && nat_le b 122)

abbrev pub is_digit : ℕ → Bool
is_digit b = nat_le 48 b && nat_le b 57

abbrev pub is_name : ℕ → Bool
is_name b = is_letter b || is_digit b || (b == 45) || (b == 95)

-- space and tab
abbrev pub is_blank : ℕ → Bool
is_blank b = (b == 32) || (b == 9)

-- and line feed and carriage return
abbrev pub is_white : ℕ → Bool
is_white b = is_blank b || (b == 10) || (b == 13)

-- how many bytes of this kind stand at the front
abbrev pub front_len : (ℕ → Bool) → List ℕ → ℕ
front_len p [] = 0
front_len p (b ∷ bs) = elim (p b) [ true ↦ suc (front_len p bs) | false ↦ 0 ]

-- what follows them
abbrev pub skip : (ℕ → Bool) → List ℕ → List ℕ
skip p [] = []
skip p (b ∷ bs) = elim (p b) [ true ↦ skip p bs | false ↦ b ∷ bs ]

abbrev pub white : List ℕ → List ℕ
white = skip is_white

abbrev pub blanks : List ℕ → List ℕ
blanks = skip is_blank

-- the bytes of this kind at the front, and what follows them
abbrev pub parted : (ℕ → Bool) → List ℕ → List ℕ × List ℕ
parted p bs = (take (front_len p bs) bs, drop (front_len p bs) bs)

-- an identifier at the front, as long as it goes, and what follows it
abbrev pub name_at : List ℕ → Option (List ℕ × List ℕ)
name_at [] = None
name_at (b ∷ bs) = elim (is_letter b) [ true ↦ Some (parted is_name (b ∷ bs)) | false ↦ None ]

-- whether this byte stands at the front, and what follows it, or else all
abbrev pub taken : ℕ → List ℕ → Bool × List ℕ
taken c [] = (false, [])
taken c (b ∷ bs) = elim (b == c) [ true ↦ (true, bs) | false ↦ (false, b ∷ bs) ]

-- what follows the word at the front
abbrev pub after : List ℕ → List ℕ → Option (List ℕ)
after [] bs = Some bs
after (c ∷ w) [] = None
after (c ∷ w) (b ∷ bs) = elim (b == c) [ true ↦ after w bs | false ↦ None ]

abbrev pub more_before : ℕ → Option (List ℕ × List ℕ) → Option (List ℕ × List ℕ)
more_before b None = None
more_before b (Some p) = Some (b ∷ p.0, p.1)

-- what stands before the first such byte, and behind it
abbrev pub until_byte : ℕ → List ℕ → Option (List ℕ × List ℕ)
until_byte c [] = None
until_byte c (b ∷ bs) = elim (b == c) [ true ↦ Some ([], bs) | false ↦ more_before b (until_byte c bs) ]

-- what stands before the first such word, and behind it
abbrev pub until_word : List ℕ → List ℕ → Option (List ℕ × List ℕ)
until_word w [] = None
until_word w (b ∷ bs) = elim (after w (b ∷ bs)) [ None ↦ more_before b (until_word w bs) | Some rest ↦ Some ([], rest) ]

-- how far a word and the text go alike
abbrev pub common : List ℕ → List ℕ → ℕ
common [] bs = 0
common (c ∷ w) [] = 0
common (c ∷ w) (b ∷ bs) = elim (b == c) [ true ↦ suc (common w bs) | false ↦ 0 ]

-- how far the text goes alike with one of the words
abbrev pub furthest : List (List ℕ) → List ℕ → ℕ
furthest [] bs = 0
furthest (w ∷ ws) bs = max (common w bs) (furthest ws bs)

abbrev pub is_one_of : List (List ℕ) → List ℕ → Bool
is_one_of [] x = false
is_one_of (w ∷ ws) x = bytes_eq w x || is_one_of ws x

-- a word that stands at the front as a whole identifier: what follows it
abbrev pub whole_word : List ℕ → List ℕ → Option (List ℕ)
whole_word w bs = elim (name_at bs) [ None ↦ None | Some p ↦ elim (bytes_eq p.0 w) [ true ↦ Some p.1 | false ↦ None ] ]
