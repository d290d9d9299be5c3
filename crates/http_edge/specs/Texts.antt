-- The texts of a head's fields.
use Rattle.std.specs.Prelude.{ℕ, List}
use Rattle.std.specs.Str.Lossy.{utf8_lossy}
use Rattle.http_framing.specs.Framings.{Header}

-- a field as a request or a reply holds it: its value is read as UTF-8, with U+FFFD for what is none
abbrev pub header_of : Header → List ℕ × List ℕ
header_of h = (h.0, utf8_lossy h.1)

-- the same of a name that is text by its own bytes
abbrev pub header_texts : Header → List ℕ × List ℕ
header_texts h = (utf8_lossy h.0, utf8_lossy h.1)
