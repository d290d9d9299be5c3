-- Files that are asked for.
use Rattle.std.specs.Prelude.{◌≡◌, ℕ, nat_lt, List, length, Option, Some, None, IfSome, if◌then◌else◌}
use Rattle.outside_core.specs.Files.{Files, content_of}

-- the file of this name has this content, where the files are told
abbrev pub Holds : Option Files → List ℕ → List ℕ → Type 0
Holds told name content = IfSome told (λ files. content_of name files ≡ Some content)

-- the bytes, unless they are more than the limit
unfoldable pub within : ℕ → List ℕ → Option (List ℕ)
within limit bytes = if nat_lt limit (length bytes) then None else Some bytes
