-- The calls of a script: the bytes of a connection, the outcomes of its exchanges, and its lines.
use Rattle.std.specs.Prelude.{◌≡◌, ◌≢◌, ◌⊎◌, ℕ, ◌≤◌, ◌<◌, false, List, [], ◌∷◌, ◌++◌, length, codes, Option, Some, None, Result, Ok, Err}
use Rattle.std.specs.Fmt.{decimal}
use Rattle.std.specs.List.{concat, flat_map}
use Rattle.backend_core.specs.declared.outcome.Outcome.{Outcome}
use Rattle.backend_core.specs.declared.outcome.Outcome.TheVariants as outcome
use Rattle.backend_core.specs.declared.request.WireRequest.{WireRequest}
use Rattle.call_facts.specs.declared.request.WireReply.{WireReply}
use Rattle.http_edge.specs.Replies.{IsReply}
use Rattle.http_framing.specs.declared.fault.EdgeFault.{EdgeFault}
use Rattle.gate_walk.specs.Printed.{ended_name}
use Rattle.gate_walk.specs.declared.ended.Ended.{Ended}
use Rattle.gate_walk.specs.declared.ended.Ended.TheVariants.{Closed, Cut, BadHead, BadChunk, HeadTooLong, ReadFault, WriteFault, SessionFull, Memory}
use Rattle.play_script.specs.Printed.{line_feed, full_line}
use Rattle.record_fields.specs.Writing.{coded}
use Rattle.play_script.specs.declared.turns.End.{End}
use Rattle.play_script.specs.declared.turns.End.TheVariants.{Full}

-- the bytes of a `post`: its target, its fields and its body
unfoldable pub post_target : List ℕ → List ℕ → List ℕ
post_target api stage = concat (codes "POST /" ∷ api ∷ codes "/" ∷ stage ∷ [])

unfoldable pub post_fields : ℕ → List ℕ
post_fields size = concat (codes " HTTP/1.1\r\nhost: localhost\r\ncontent-length: " ∷ decimal size ∷ codes "\r\n\r\n" ∷ [])

abbrev pub post_bytes : List ℕ → List ℕ → List ℕ → List ℕ
post_bytes api stage body = post_target api stage ++ post_fields (length body) ++ body

-- the bytes of one whole reply of a status from 200 to 999, with nothing behind it
abbrev pub HasStatus : WireReply → Type 0
HasStatus reply = (200 ≤ reply.status) × (reply.status ≤ 999)

abbrev pub IsWhole : List ℕ → WireReply → Type 0
IsWhole field reply = IsReply false field (Ok reply) [] × HasStatus reply

-- what is read is a fault, or something stands behind the reply
abbrev pub IsOther : Result WireReply EdgeFault → List ℕ → Type 0
IsOther (Ok reply) rest = rest ≢ []
IsOther (Err fault) rest = Unit {0}

abbrev pub IsNoWhole : List ℕ → Type 0
IsNoWhole field = (read : Result WireReply EdgeFault) × (rest : List ℕ) × IsReply false field read rest × IsOther read rest

-- the whole reply is of another status
abbrev pub IsStrange : List ℕ → Type 0
IsStrange field = (reply : WireReply) × IsReply false field (Ok reply) [] × ((reply.status < 200) ⊎ (999 < reply.status))

abbrev pub IsNoReply : List ℕ → Type 0
IsNoReply field = IsNoWhole field ⊎ IsStrange field

-- a field tells an outcome of an exchange: it failed, it lapsed, or it came to the reply of these bytes
abbrev pub IsOutcome : List ℕ → Outcome → Type 0
IsOutcome field (outcome.Reply reply) = (field ≢ codes "!failed") × (field ≢ codes "!lapsed") × IsWhole field reply
IsOutcome field outcome.Failed = field ≡ codes "!failed"
IsOutcome field outcome.TimedOut = field ≡ codes "!lapsed"
IsOutcome field outcome.Memory = ⊥

abbrev pub IsNoOutcome : List ℕ → Type 0
IsNoOutcome field = (field ≢ codes "!failed") × (field ≢ codes "!lapsed") × IsNoReply field

-- these fields tell these outcomes
abbrev pub AreOutcomes : List (List ℕ) → List Outcome → Type 0
AreOutcomes [] outcomes = outcomes ≡ []
AreOutcomes (field ∷ fields) [] = ⊥
AreOutcomes (field ∷ fields) (told ∷ outcomes) = IsOutcome field told × AreOutcomes fields outcomes

-- the first that tells none stands behind some that do
abbrev pub BreaksOutcomes : List (List ℕ) → Type 0
BreaksOutcomes [] = ⊥
BreaksOutcomes (field ∷ fields) = IsNoOutcome field ⊎ (((told : Outcome) × IsOutcome field told) × BreaksOutcomes fields)

-- the lines of the requests that were sent to backends
abbrev pub sent_line : WireRequest → List ℕ
sent_line request = concat (codes "sent " ∷ coded request.bytes ∷ line_feed ∷ [])

abbrev pub sent_lines : List WireRequest → List ℕ
sent_lines requests = flat_map sent_line requests

-- all bytes that were written on a connection, where there are any
abbrev pub answer_line : List ℕ → List ℕ
answer_line [] = []
answer_line (b ∷ bs) = concat (codes "answer " ∷ coded (b ∷ bs) ∷ line_feed ∷ [])

-- the line that ends a play where the session is full
abbrev pub full_lines : Ended → List ℕ
full_lines Closed = []
full_lines (Cut n) = []
full_lines BadHead = []
full_lines BadChunk = []
full_lines HeadTooLong = []
full_lines ReadFault = []
full_lines WriteFault = []
full_lines (SessionFull entries bytes) = full_line (record { entries = entries; bytes = bytes })
full_lines Memory = []

-- the lines of a connection
unfoldable pub connection_lines : List WireRequest → List ℕ → Ended → List ℕ
connection_lines sent written ended = concat (sent_lines sent ∷ answer_line written ∷ codes "ended " ∷ ended_name ended ∷ line_feed ∷ full_lines ended ∷ [])

-- a play ends behind a connection on which the session was full
abbrev pub end_of : Ended → Option End
end_of Closed = None
end_of (Cut n) = None
end_of BadHead = None
end_of BadChunk = None
end_of HeadTooLong = None
end_of ReadFault = None
end_of WriteFault = None
end_of (SessionFull entries bytes) = Some Full
end_of Memory = None
