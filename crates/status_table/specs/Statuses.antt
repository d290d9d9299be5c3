-- The statuses that a pattern takes.
use Rattle.std.specs.Prelude.{◌≡◌, ℕ, ◌+◌, ◌<◌, ◌&&◌, Bool, false, List, get_or, length}
use Rattle.std.specs.Fmt.{decimal}
use Rattle.pattern_core.specs.Search.{anchored, is_pattern, matches_whole}

-- a pattern that can match whole texts: it is one alone, and between `^(?:` and `)$`
abbrev pub is_whole_pattern : List ℕ → Bool
is_whole_pattern pattern = is_pattern pattern && is_pattern (anchored pattern)

-- the pattern takes the status: it matches the whole text of its three digits
unfoldable pub takes : List ℕ → ℕ → Bool
takes pattern status = matches_whole pattern (decimal status)

-- these are the answers for the statuses from 100 on
pub record AreAnswers (pattern : List ℕ) (count : ℕ) (answers : List Bool) : Type 0 where
  pub all : length answers ≡ count
  pub each : (n : ℕ) → n < count → get_or answers n false ≡ takes pattern (100 + n)
