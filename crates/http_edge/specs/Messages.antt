-- The messages of a stream (RFC 9112, sections 2 to 9): what stands next in all that is left of it.
use Rattle.std.specs.Prelude.{◌≡◌, ℕ, ◌⊎◌, ◌==◌, List, [], ◌∷◌, ◌++◌, length, map, ⊤, Result, Ok, Err}
use Rattle.httparse.specs.Grammar.{RequestHead}
use Rattle.httparse.specs.Spans.{name_and_value}
use Rattle.call_facts.specs.declared.request.Request.{Request}
use Rattle.http_framing.specs.Bodies.{IsKnown, IsChunked}
use Rattle.http_framing.specs.Framings.{Header, framing_of}
use Rattle.http_framing.specs.Heads.{HasHead, LacksHead}
use Rattle.http_framing.specs.declared.body.Body.{Body}
use Rattle.http_framing.specs.declared.body.Body.TheVariants.{Read, PastLimit}
use Rattle.http_framing.specs.declared.framing.Framing.{Framing}
use Rattle.http_framing.specs.declared.framing.Framing.TheVariants.{TooMany, Wrong, Absent, Known, Chunked}
use Rattle.http_framing.specs.declared.fault.EdgeFault.{EdgeFault}
use Rattle.http_framing.specs.declared.fault.EdgeFault.TheVariants.{BadHead, HeadTooLong, Cut, ReadFault, Memory}
use Rattle.http_edge.specs.Texts.{header_of}
use Rattle.http_edge.specs.declared.incoming.Incoming.{Incoming}
use Rattle.http_edge.specs.declared.incoming.Incoming.TheVariants.{Whole, TooLarge, End}

-- the names and the values of a head's fields
abbrev pub headers : RequestHead → List Header
headers h = map name_and_value h.fields

-- the request that a head begins, with this body
abbrev pub request_of : RequestHead → List ℕ → Request
request_of h body = record { method = h.method; target = h.target; http10 = h.minor == 0; headers = map header_of (headers h); body = body }

-- a request with this body
abbrev pub with_body : Request → List ℕ → Request
with_body r body = record r { body = body }

-- what a head says of its body
abbrev pub framing : RequestHead → Framing
framing h = framing_of (h.minor == 0) (headers h)

-- what the body comes to in the bytes behind a head that says this, and what is left behind it
abbrev pub IsRequestBody : Framing → List ℕ → Result Body EdgeFault → List ℕ → Type 0
IsRequestBody TooMany bytes result rest = result ≡ Err HeadTooLong
IsRequestBody Wrong bytes result rest = result ≡ Err BadHead
IsRequestBody Absent bytes result rest = (result ≡ Ok (Read [])) × (rest ≡ bytes)
IsRequestBody (Known n) bytes result rest = IsKnown n bytes result rest
IsRequestBody Chunked bytes result rest = IsChunked bytes result rest

-- a cut is counted from the message's start
abbrev pub counted : ℕ → EdgeFault → EdgeFault
counted count (Cut k) = Cut count
counted count f = f

-- what a message comes to: its request, how many bytes there are in all, and what its body comes to
abbrev pub message_of : Request → ℕ → Result Body EdgeFault → Result Incoming EdgeFault
message_of r count (Ok (Read body)) = Ok (Whole (with_body r body))
message_of r count (Ok PastLimit) = Ok (TooLarge r)
message_of r count (Err f) = Err (counted count f)

-- behind a fault nothing is left
abbrev pub rest_of : {T : Type 0} → Result T EdgeFault → List ℕ → List ℕ
rest_of (Ok v) rest = rest
rest_of (Err f) rest = []

-- a head stands at the front, and with what stands behind it comes to this; so much is left behind that
pub record IsMessage (bytes : List ℕ) (result : Result Incoming EdgeFault) (rest : List ℕ) : Type 0 where
  pub head : RequestHead
  pub after : List ℕ
  pub has : HasHead bytes head after
  pub body : Result Body EdgeFault
  pub left : List ℕ
  pub reads : IsRequestBody (framing head) after body left
  pub comes : result ≡ message_of (request_of head []) (length bytes) body
  pub rest_is : rest ≡ rest_of result left

-- what stands next in all that is left of a stream, and what is left behind it
abbrev pub IsNext : List ℕ → Result Incoming EdgeFault → List ℕ → Type 0
IsNext bytes (Ok End) rest = (bytes ≡ []) × (rest ≡ [])
IsNext bytes (Ok (Whole r)) rest = IsMessage bytes (Ok (Whole r)) rest
IsNext bytes (Ok (TooLarge r)) rest = IsMessage bytes (Ok (TooLarge r)) rest
IsNext bytes (Err f) rest = (LacksHead bytes f × (rest ≡ [])) ⊎ IsMessage bytes (Err f) rest

-- an input may end here: at a message's end, or within a message
abbrev pub Stops : List ℕ → Type 0
Stops bytes = (bytes ≡ []) ⊎ IsNext bytes (Err (Cut (length bytes))) []

-- what reading the next message of these bytes came to, with what is held then and what the source has left. Where a read failed, no message and no fault stands in what was taken
abbrev pub Comes : List ℕ → List ℕ → List ℕ → Result Incoming EdgeFault → Type 0
Comes bytes held left (Ok m) = IsNext bytes (Ok m) (held ++ left)
Comes bytes held left (Err (Cut n)) = IsNext bytes (Err (Cut n)) [] × (left ≡ [])
Comes bytes held left (Err ReadFault) = (taken : List ℕ) × (bytes ≡ taken ++ left) × Stops taken
Comes bytes held left (Err Memory) = ⊤
Comes bytes held left (Err f) = IsNext bytes (Err f) []

-- the messages of a stream, and its end: the input's, or a fault. Nothing follows a message that is too large
abbrev pub IsRun : List ℕ → List Incoming → Result Incoming EdgeFault → Type 0
IsRun bytes [] (Ok (Whole r)) = ⊥
IsRun bytes [] (Ok (TooLarge r)) = ⊥
IsRun bytes [] (Ok End) = IsNext bytes (Ok End) []
IsRun bytes [] (Err f) = IsNext bytes (Err f) []
IsRun bytes (Whole r ∷ more) end = (rest : List ℕ) × IsNext bytes (Ok (Whole r)) rest × IsRun rest more end
IsRun bytes (TooLarge r ∷ more) end = (rest : List ℕ) × IsNext bytes (Ok (TooLarge r)) rest × (more ≡ []) × (end ≡ Ok End)
IsRun bytes (End ∷ more) end = ⊥
