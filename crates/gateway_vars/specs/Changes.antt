-- The place of a name among pairs.
use Rattle.std.specs.Prelude.{ℕ, ◌+◌, List, [], ◌∷◌, if◌then◌else◌}
use Rattle.std.specs.Str.{bytes_eq}
use Rattle.call_facts.specs.Pairs.{Pairs}

-- the place of the first pair of this name, or their number
abbrev pub place_of : Pairs → List ℕ → ℕ
place_of [] x = 0
place_of (p ∷ ps) x = if bytes_eq p.0 x then 0 else place_of ps x + 1
