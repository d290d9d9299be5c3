-- The bytes of a request (RFC 9112, sections 2.1, 3 and 5).
use Rattle.std.specs.Prelude.{ℕ, List, ◌++◌, codes}
use Rattle.std.specs.List.{flat_map}
use Rattle.call_facts.specs.Pairs.{Pairs}

-- `METHOD TARGET HTTP/1.1`
abbrev pub request_line : List ℕ → List ℕ → List ℕ
request_line method target = method ++ codes " " ++ target ++ codes " HTTP/1.1\r\n"

-- `name: value`
abbrev pub header_line : List ℕ × List ℕ → List ℕ
header_line h = h.0 ++ codes ": " ++ h.1 ++ codes "\r\n"

abbrev pub header_lines : Pairs → List ℕ
header_lines hs = flat_map header_line hs

-- the request line, the header lines, an empty line and the body
abbrev pub message_of : List ℕ → List ℕ → Pairs → List ℕ → List ℕ
message_of method target headers body = request_line method target ++ header_lines headers ++ codes "\r\n" ++ body
