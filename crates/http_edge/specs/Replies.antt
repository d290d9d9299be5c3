-- The reply of a backend (RFC 9112, sections 4 and 6; RFC 9110, section 15.2): the reply that all these bytes begin with, and what is left behind it.
use Rattle.std.specs.Prelude.{◌≡◌, ℕ, ◌-◌, ◌≤◌, ◌⊎◌, Bool, true, false, ◌||◌, ◌&&◌, ◌==◌, nat_lt, List, [], ◌∷◌, ◌++◌, length, map, ⊤, Result, Ok, Err}
use Rattle.httparse.specs.Grammar.{ResponseHead, print_response, status_code}
use Rattle.httparse.specs.Spans.{name_and_value}
use Rattle.call_facts.specs.declared.request.WireReply.{WireReply}
use Rattle.http_framing.specs.Bodies.{IsKnown, IsChunked, IsRest}
use Rattle.http_framing.specs.Framings.{Header, reply_framing_of}
use Rattle.http_framing.specs.ReplyHeads.{HasReplyHead, LacksReplyHead}
use Rattle.http_framing.specs.declared.body.Body.{Body}
use Rattle.http_framing.specs.declared.body.Body.TheVariants.{Read, PastLimit}
use Rattle.http_framing.specs.declared.framing.Framing.{Framing}
use Rattle.http_framing.specs.declared.framing.Framing.TheVariants.{TooMany, Wrong, Absent, Known, Chunked}
use Rattle.http_framing.specs.declared.fault.EdgeFault.{EdgeFault}
use Rattle.http_framing.specs.declared.fault.EdgeFault.TheVariants.{BadHead, HeadTooLong, BadChunk, Cut, ReadFault, Memory}
use Rattle.http_edge.specs.Messages.{counted, rest_of}
use Rattle.http_edge.specs.Statuses.{is_bare}
use Rattle.http_edge.specs.Texts.{header_of}

-- the names and the values of a head's fields
abbrev pub reply_headers : ResponseHead → List Header
reply_headers h = map name_and_value h.fields

-- what a head says of its body
abbrev pub reply_framing : ResponseHead → Framing
reply_framing h = reply_framing_of (h.minor == 0) (status_code h) (reply_headers h)

-- the reply of this head with this body
abbrev pub replied : ResponseHead → List ℕ → WireReply
replied h body = record { status = status_code h; headers = map header_of (reply_headers h); body = body }

-- a head that is not refused
abbrev pub serves : Framing → Bool
serves TooMany = false
serves Wrong = false
serves f = true

-- the head of an interim reply, of a status from 100 to 199
abbrev pub is_interim : ResponseHead → Bool
is_interim h = serves (reply_framing h) && nat_lt (status_code h) 200

-- the heads of interim replies are passed over; of the room for all heads so much is left, and these bytes
abbrev pub Passes : List ResponseHead → ℕ → List ℕ → ℕ → List ℕ → Type 0
Passes [] room bytes left rest = (left ≡ room) × (rest ≡ bytes)
Passes (h ∷ hs) room bytes left rest =
    (after : List ℕ) × HasReplyHead room bytes h after × (is_interim h ≡ true) × Passes hs (room - length (print_response h)) after left rest

-- the head of the reply, behind those of interim ones: all of them within 10,240 bytes
pub record HasFinalHead (bytes : List ℕ) (h : ResponseHead) (after : List ℕ) : Type 0 where
  pub interim : List ResponseHead
  pub room : ℕ
  pub at : List ℕ
  pub passes : Passes interim 10240 bytes room at
  pub has : HasReplyHead room at h after
  pub final : is_interim h ≡ false

-- why no such head stands; a cut counts all bytes
pub record LacksFinalHead (bytes : List ℕ) (f : EdgeFault) : Type 0 where
  pub interim : List ResponseHead
  pub room : ℕ
  pub at : List ℕ
  pub passes : Passes interim 10240 bytes room at
  pub fault : EdgeFault
  pub lacks : LacksReplyHead room at fault
  pub counts : f ≡ counted (length bytes) fault

-- a reply without a body takes nothing; else this
abbrev pub UnlessBare : Bool → List ℕ → Result (List ℕ) EdgeFault → List ℕ → Type 0 → Type 0
UnlessBare true bytes result rest P = (result ≡ Ok []) × (rest ≡ bytes)
UnlessBare false bytes result rest P = P

-- a body that passes the limit is refused
abbrev pub kept : Result Body EdgeFault → Result (List ℕ) EdgeFault
kept (Ok (Read body)) = Ok body
kept (Ok PastLimit) = Err BadChunk
kept (Err f) = Err f

-- a body of this kind that is kept, or refused
abbrev pub KeptOf : (List ℕ → Result Body EdgeFault → List ℕ → Type 0) → List ℕ → Result (List ℕ) EdgeFault → List ℕ → Type 0
KeptOf Is bytes result rest = (body : Result Body EdgeFault) × (left : List ℕ) × Is bytes body left × (result ≡ kept body) × (rest ≡ rest_of result left)

-- what the body comes to in the bytes behind a head that says this, and what is left behind it: a body in chunks, of a known length, or all up to the end of the input
abbrev pub IsReplyBody : Bool → Framing → List ℕ → Result (List ℕ) EdgeFault → List ℕ → Type 0
IsReplyBody bare TooMany bytes result rest = result ≡ Err HeadTooLong
IsReplyBody bare Wrong bytes result rest = result ≡ Err BadHead
IsReplyBody bare Absent bytes result rest = UnlessBare bare bytes result rest (IsRest bytes result rest)
IsReplyBody bare (Known n) bytes result rest = UnlessBare bare bytes result rest (KeptOf (IsKnown n) bytes result rest)
IsReplyBody bare Chunked bytes result rest = UnlessBare bare bytes result rest (KeptOf IsChunked bytes result rest)

-- whether the reply of this head has no body, whatever the head says: it answers a HEAD request, or is of status 204 or 304
abbrev pub has_none : Bool → ResponseHead → Bool
has_none bodiless h = bodiless || is_bare (status_code h)

-- what a reply comes to: its head, how many bytes there are in all, and what its body comes to
abbrev pub reply_of : ResponseHead → ℕ → Result (List ℕ) EdgeFault → Result WireReply EdgeFault
reply_of h count (Ok body) = Ok (replied h body)
reply_of h count (Err f) = Err (counted count f)

-- the head of a reply stands, and with what stands behind it comes to this; so much is left behind that
pub record IsReplied (bodiless : Bool) (bytes : List ℕ) (result : Result WireReply EdgeFault) (rest : List ℕ) : Type 0 where
  pub head : ResponseHead
  pub after : List ℕ
  pub has : HasFinalHead bytes head after
  pub body : Result (List ℕ) EdgeFault
  pub left : List ℕ
  pub reads : IsReplyBody (has_none bodiless head) (reply_framing head) after body left
  pub comes : result ≡ reply_of head (length bytes) body
  pub rest_is : rest ≡ rest_of result left

-- the reply that all these bytes begin with, or why there is none; and what is left behind it
abbrev pub IsReply : Bool → List ℕ → Result WireReply EdgeFault → List ℕ → Type 0
IsReply bodiless bytes (Ok r) rest = IsReplied bodiless bytes (Ok r) rest
IsReply bodiless bytes (Err f) rest = (LacksFinalHead bytes f × (rest ≡ [])) ⊎ IsReplied bodiless bytes (Err f) rest

-- a head stands behind which the body goes on to the end of the input, and so far it keeps within the limit
pub record RunsOn (bodiless : Bool) (bytes : List ℕ) : Type 0 where
  pub head : ResponseHead
  pub after : List ℕ
  pub has : HasFinalHead bytes head after
  pub absent : reply_framing head ≡ Absent
  pub bodied : has_none bodiless head ≡ false
  pub within : length after ≤ 10485760

-- less than a reply, which may go on: its input is cut here, or its body goes on to the end
abbrev pub AwaitsReply : Bool → List ℕ → Type 0
AwaitsReply bodiless bytes = IsReply bodiless bytes (Err (Cut (length bytes))) [] ⊎ RunsOn bodiless bytes

-- what reading the reply of these bytes came to, with what is held then and what the source has left
abbrev pub Replies : Bool → List ℕ → List ℕ → List ℕ → Result WireReply EdgeFault → Type 0
Replies bodiless bytes held left (Ok r) = IsReply bodiless bytes (Ok r) (held ++ left)
Replies bodiless bytes held left (Err (Cut n)) = IsReply bodiless bytes (Err (Cut n)) [] × (left ≡ [])
Replies bodiless bytes held left (Err ReadFault) = (taken : List ℕ) × (bytes ≡ taken ++ left) × AwaitsReply bodiless taken
Replies bodiless bytes held left (Err Memory) = ⊤
Replies bodiless bytes held left (Err f) = IsReply bodiless bytes (Err f) []
