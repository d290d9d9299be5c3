-- What is written of a text, and what is kept to be written.
use Rattle.std.specs.Prelude.{◌≡◌, ℕ, List, ◌++◌, Option}
use Rattle.std.specs.Io.KnownBytes.{Appends}

-- of this text some was written, and what is gathered comes behind it
abbrev pub Gathers : Option (List ℕ) → Option (List ℕ) → List ℕ → List ℕ → Type 0
Gathers old now gathered text = (wrote : List ℕ) × Appends old now wrote × (text ≡ wrote ++ gathered)
