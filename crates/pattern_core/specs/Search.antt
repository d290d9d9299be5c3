-- What a pattern is, and where it has a match, by the grammar and the search of `regex`.
use Rattle.std.specs.Prelude.{◌≡◌, ◌<◌, ℕ, get_or, ◌++◌, List, Bool, false, Option, None, Some, is_some, chars, codes, option_map, nat_le}
use Rattle.regex.specs.Patterns.{Re, find_str, default_config}
use Rattle.regex_syntax.specs.Grammar.{read}
use Rattle.regex_syntax.specs.Brackets.{Nested}

-- the tree that a text is read as, where it is of the grammar
unfoldable pub tree_of : List ℕ → Option (Nested Re)
tree_of source = option_map (λ found. found.0) (read default_config (chars source))

abbrev pub is_shallow : Option (Nested Re) → Bool
is_shallow None = false
is_shallow (Some tree) = nat_le tree.depth default_config.nest_limit

-- the text is of the grammar, and nests no deeper than regex goes
abbrev pub is_pattern : List ℕ → Bool
is_pattern source = is_shallow (tree_of source)

abbrev pub found_in : Option (Nested Re) → List ℕ → Bool
found_in None text = false
found_in (Some tree) text = is_some (find_str tree.value text 0)

-- the pattern has a match somewhere in the text
abbrev pub matches : List ℕ → List ℕ → Bool
matches source text = found_in (tree_of source) text

-- a search for this expression finds what the pattern matches
abbrev pub IsFoundBy : List ℕ → Re → Type 0
IsFoundBy source re = (text : List ℕ) → ((k : ℕ) → get_or text k 0 < 256) → is_some (find_str re text 0) ≡ matches source text

-- `^(?:P)$`
abbrev pub anchored : List ℕ → List ℕ
anchored source = codes "^(?:" ++ source ++ codes ")$"

-- the pattern matches the whole text: `^(?:P)$` has a match in it
abbrev pub matches_whole : List ℕ → List ℕ → Bool
matches_whole source text = matches (anchored source) text
