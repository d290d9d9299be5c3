-- Lists in which something may stand twice.
use Rattle.std.specs.Prelude.{Bool, List, [], ◌∷◌, if◌then◌else◌}
use Rattle.std.specs.List.{list_any}

-- of items that are the same the last alone, in its place
abbrev pub last_of_each : {A : Type 0} → (A → A → Bool) → List A → List A
last_of_each same [] = []
last_of_each same (x ∷ xs) = if list_any (same x) xs then last_of_each same xs else x ∷ last_of_each same xs
