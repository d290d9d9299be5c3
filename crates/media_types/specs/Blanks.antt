-- Spaces and tabs: the white space of header fields (RFC 9110, section 5.6.3).
use Rattle.std.specs.Prelude.{ℕ, ◌==◌, Bool, ◌||◌, List, [], ◌∷◌, if◌then◌else◌}

-- a space or a tab
unfoldable pub is_blank : ℕ → Bool
is_blank b = b == 32 || b == 9

-- the text without the blanks at its start
abbrev pub without_start : List ℕ → List ℕ
without_start [] = []
without_start (b ∷ text) = if is_blank b then without_start text else b ∷ text

-- a byte before what is left of the text behind it: it goes where it is blank and nothing is left
abbrev pub kept_before : ℕ → List ℕ → List ℕ
kept_before b [] = if is_blank b then [] else b ∷ []
kept_before b (c ∷ text) = b ∷ c ∷ text

-- the text without the blanks at its end
abbrev pub without_end : List ℕ → List ℕ
without_end [] = []
without_end (b ∷ text) = kept_before b (without_end text)

-- the text without the blanks at both ends
unfoldable pub trimmed : List ℕ → List ℕ
trimmed text = without_end (without_start text)
