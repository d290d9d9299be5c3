-- The words that stand in the table of commands.
use Rattle.std.specs.Prelude.{ℕ, Bool, false, ◌&&◌, ◌||◌, List, [], ◌∷◌, codes}
use Rattle.std.specs.Str.{bytes_eq}
use Rattle.command_words.specs.Commands.{is_argument}

-- the words are a command's name and as many arguments as it takes
abbrev pub is_row : List (List ℕ) → Bool
is_row [] = false
is_row (name ∷ []) = bytes_eq name (codes "play")
is_row (name ∷ only ∷ []) = (bytes_eq name (codes "check") || bytes_eq name (codes "admin")) && is_argument only
is_row (name ∷ first ∷ second ∷ []) = (bytes_eq name (codes "render") || bytes_eq name (codes "load")) && is_argument first && is_argument second
is_row (name ∷ first ∷ second ∷ third ∷ []) =
    bytes_eq name (codes "serve") && is_argument first && is_argument second && is_argument third
is_row (name ∷ first ∷ second ∷ third ∷ more ∷ words) = false
