-- The trailers of a body in chunks, line by line (RFC 9112, sections 2.2 and 7.1.2).
use Rattle.std.specs.Prelude.{◌≡◌, ◌≢◌, ◌↔◌, ℕ, not, true, ◌==◌, List, [], ◌∷◌, ◌++◌, length, Some}
use Rattle.std.specs.List.{AllByRecursion, flat_map, list_all}
use Rattle.httparse.specs.Grammar.{LineEnd, print_end}
use Rattle.http_framing.specs.Chunks.{trailers_from}
use Rattle.http_framing.specs.declared.trailers.Spot.TheVariants.{Fresh}

-- a trailer without the line feed that ends it: it holds none, and is neither empty nor a carriage return alone
abbrev pub IsTrailer : List ℕ → Type 0
IsTrailer line = (list_all (λ b. not (b == 10)) line ≡ true) × (line ≢ []) × (line ≢ 13 ∷ [])

-- trailers, each ended by a line feed, and an empty line
abbrev pub spelled_lines : List (List ℕ) → LineEnd → List ℕ
spelled_lines lines last = flat_map (λ line. line ++ 10 ∷ []) lines ++ print_end last

-- the bytes are trailers up to an empty line
abbrev pub AreTrailers : List ℕ → Type 0
AreTrailers bytes = (lines : List (List ℕ)) × (last : LineEnd) × AllByRecursion IsTrailer lines × (bytes ≡ spelled_lines lines last)

-- trailers of so many bytes stand at the front
abbrev pub HasTrailers : List ℕ → ℕ → Type 0
HasTrailers bytes n = (trail : List ℕ) × (rest : List ℕ) × AreTrailers trail × (bytes ≡ trail ++ rest) × (n ≡ length trail)

-- the length that is found is that of trailers, and that of all trailers is found
abbrev pub FindsTrailers : Type 0
FindsTrailers = (bytes : List ℕ) (n : ℕ) → (trailers_from 0 Fresh bytes ≡ Some n) ↔ HasTrailers bytes n
