-- How an answer is written (RFC 9112, sections 2.1, 4 and 5).
use Rattle.std.specs.Prelude.{ℕ, Bool, false, true, ◌||◌, List, [], ◌∷◌, ◌++◌, map, length, if◌then◌else◌, codes, unwrap_or, Option, Some, None}
use Rattle.std.specs.List.{flat_map}
use Rattle.std.specs.Char.{to_ascii_lowercase}
use Rattle.std.specs.Fmt.{decimal}
use Rattle.http.specs.StatusCode.{reason_phrase}
use Rattle.http_framing.specs.declared.fault.EdgeFault.{EdgeFault}
use Rattle.http_framing.specs.declared.fault.EdgeFault.TheVariants.{BadHead, HeadTooLong, BadChunk}
use Rattle.call_facts.specs.declared.answer.Answer.{Answer}
use Rattle.http_edge.specs.Statuses.{is_bare}

-- the end of a line
abbrev pub crlf : List ℕ
crlf = 13 ∷ 10 ∷ []

-- `HTTP/1.1 STATUS PHRASE`; an unknown status has an empty phrase
abbrev pub status_line : ℕ → List ℕ
status_line status = codes "HTTP/1.1 " ++ decimal status ++ codes " " ++ unwrap_or (reason_phrase status) [] ++ crlf

-- a name in lower case, and its value
abbrev pub header_line : List ℕ × List ℕ → List ℕ
header_line h = map to_ascii_lowercase h.0 ++ codes ": " ++ h.1 ++ crlf

-- that the connection closes
abbrev pub closing_line : Bool → List ℕ
closing_line closing = if closing then codes "connection: close\r\n" else []

-- the length of the body, but of statuses that have none
abbrev pub length_line : ℕ → ℕ → List ℕ
length_line status n = if is_bare status then [] else codes "content-length: " ++ decimal n ++ crlf

-- the body, but of statuses that have none and where the head alone is asked for
abbrev pub body_written : Bool → ℕ → List ℕ → List ℕ
body_written head_only status body = if head_only || is_bare status then [] else body

-- the bytes of an answer
unfoldable pub spelled : Answer → Bool → Bool → List ℕ
spelled a head_only closing =
    status_line a.status ++ flat_map header_line a.headers ++ closing_line closing ++ length_line a.status (length a.body) ++ crlf
    ++ body_written head_only a.status a.body

-- an answer of this status, without headers and without a body, behind which the connection closes
abbrev pub edge_bytes : ℕ → List ℕ
edge_bytes status = spelled (record { status = status; headers = []; body = [] }) false true

-- the status that a fault is answered with, where it is answered at all
abbrev pub edge_status : EdgeFault → Option ℕ
edge_status BadHead = Some 400
edge_status BadChunk = Some 400
edge_status HeadTooLong = Some 431
edge_status f = None
