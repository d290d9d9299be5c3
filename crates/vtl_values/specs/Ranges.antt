-- The numbers of a range.
use Rattle.std.specs.Prelude.{ℕ, zero, suc, ℤ, pos, negsuc, ◌+ℤ◌, ◌-ℤ◌, List, [], ◌∷◌, int_lt, unsigned_abs, if◌then◌else◌}

-- so many numbers from the first on, each by this much above the one before
abbrev pub counted : ℤ → ℤ → ℕ → List ℤ
counted by first zero = []
counted by first (suc n) = first ∷ counted by (first +ℤ by) n

-- up or down by 1
abbrev pub toward : ℤ → ℤ → ℤ
toward first last = if int_lt last first then negsuc 0 else pos 1

-- how many numbers stand behind the first
abbrev pub distance : ℤ → ℤ → ℕ
distance first last = unsigned_abs (first -ℤ last)

-- the number at this place, counted from 0
abbrev pub numbered : ℤ → ℤ → ℕ → ℤ
numbered first last n = if int_lt last first then first -ℤ pos n else first +ℤ pos n

-- the whole numbers from the first to the last, counting down where the first is the greater
unfoldable pub span : ℤ → ℤ → List ℤ
span first last = counted (toward first last) first (suc (distance first last))
