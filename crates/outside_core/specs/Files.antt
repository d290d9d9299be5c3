-- Files, by name.
use Rattle.std.specs.Prelude.{ℕ, List, [], ◌∷◌, Option, Some, None, if◌then◌else◌}
use Rattle.std.specs.Str.{bytes_eq}

-- names and contents
abbrev pub Files : Type 0
Files = List (List ℕ × List ℕ)

-- the content of the first file of this name
abbrev pub content_of : List ℕ → Files → Option (List ℕ)
content_of name [] = None
content_of name (file ∷ files) = if bytes_eq file.0 name then Some file.1 else content_of name files
