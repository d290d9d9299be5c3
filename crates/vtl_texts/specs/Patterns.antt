-- What a pattern and a replacement stand for: characters, some of them behind a `\`.
use Rattle.std.specs.Prelude.{ℕ, Bool, true, false, List, [], ◌∷◌, length, ◌==◌, Option, Some, None, if◌then◌else◌, codes}
use Rattle.std.specs.Option.{option_map}
use Rattle.std.specs.List.{list_any}
use Rattle.std.specs.Char.{is_ascii_punctuation}
use Rattle.std.specs.Str.{chars, encode_utf8_all}
use Rattle.vtl_texts.specs.declared.patterns.Escapes.{Escapes}
use Rattle.vtl_texts.specs.declared.patterns.Escapes.TheVariants.{Pattern, Replacement}

-- a character that a regular expression gives a meaning of its own
abbrev pub has_meaning : ℕ → Bool
has_meaning c = list_any (λ d. c == d) (codes ".^$*+?()[]{}|")

-- the characters that a `\` may stand before: ASCII punctuation in a pattern, any in a replacement
abbrev pub is_escapable : Escapes → ℕ → Bool
is_escapable Pattern c = is_ascii_punctuation c
is_escapable Replacement c = true

-- the characters that are refused without a `\` before them: a `$` in a replacement
abbrev pub is_refused : Escapes → ℕ → Bool
is_refused Pattern c = has_meaning c
is_refused Replacement c = c == 36

-- a character before what the rest stands for
abbrev pub with_front : ℕ → Option (List ℕ) → Option (List ℕ)
with_front c rest = option_map (λ cs. c ∷ cs) rest

-- the characters that these stand for, the first of them behind a `\` where `escaped`; none where one may not stand
-- there, or a `\` is the last
abbrev pub unescaped : Escapes → Bool → List ℕ → Option (List ℕ)
unescaped e true [] = None
unescaped e true (c ∷ cs) = if is_escapable e c then with_front c (unescaped e false cs) else None
unescaped e false [] = Some []
unescaped e false (c ∷ cs) = if c == 92 then unescaped e true cs else if is_refused e c then None else with_front c (unescaped e false cs)

-- the text that a pattern stands for, where it is no more than that; none for an empty one
unfoldable pub literal_of : List ℕ → Option (List ℕ)
literal_of p = if length p == 0 then None else option_map encode_utf8_all (unescaped Pattern false (chars p))

-- the text that a replacement stands for
unfoldable pub replacement_of : List ℕ → Option (List ℕ)
replacement_of t = option_map encode_utf8_all (unescaped Replacement false (chars t))
