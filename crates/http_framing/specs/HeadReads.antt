-- What awaiting a head comes to.
use Rattle.std.specs.Prelude.{◌≡◌, ◌≤◌, ◌<◌, ℕ, List, length, take, ⊤, Option, Result, Ok, Err}
use Rattle.std.specs.Io.KnownBytes.{IsAtEnd}
use Rattle.httparse.specs.Grammar.{NeverHasResponse}
use Rattle.httparse.specs.Spans.{IsRequestOf, IsRequestWithin, IsResponseOf, IsResponseWithin}
use Rattle.httparse.specs.declared.spans.HeaderSpan.{HeaderSpan}
use Rattle.httparse.specs.declared.spans.RequestSpans.{RequestSpans}
use Rattle.httparse.specs.declared.spans.ResponseSpans.{ResponseSpans}
use Rattle.http_framing.specs.Heads.{IsBadHead, IsUnfinished}
use Rattle.http_framing.specs.ReplyHeads.{MayBecomeReply}
use Rattle.http_framing.specs.declared.fault.EdgeFault.{EdgeFault}
use Rattle.http_framing.specs.declared.fault.EdgeFault.TheVariants.{BadHead, HeadTooLong, BadChunk, Cut, ReadFault, Memory}
use Rattle.http_framing.specs.declared.front.Front.{Front}
use Rattle.http_framing.specs.declared.front.Front.TheVariants.{Head, Unfinished, Bad}

-- what a look at the front of bytes found
abbrev pub IsFront : List ℕ → List HeaderSpan → Front RequestSpans → Type 0
IsFront buf room (Head spans) = IsRequestOf buf room spans × IsRequestWithin buf room spans
IsFront buf room Unfinished = IsUnfinished buf
IsFront buf room Bad = IsBadHead buf

-- what is held and left once a request's head was awaited
abbrev pub HeadTaken : List ℕ → List HeaderSpan → Option (List ℕ) → Result RequestSpans EdgeFault → Type 0
HeadTaken held room left (Ok spans) = IsRequestOf (take 10240 held) room spans × IsRequestWithin (take 10240 held) room spans
HeadTaken held room left (Err BadHead) = IsBadHead (take 10240 held)
HeadTaken held room left (Err HeadTooLong) = IsUnfinished (take 10240 held) × (10240 ≤ length held)
HeadTaken held room left (Err (Cut n)) = IsUnfinished (take 10240 held) × (length held < 10240) × (n ≡ length held) × IsAtEnd left
HeadTaken held room left (Err ReadFault) = IsUnfinished (take 10240 held) × (length held < 10240)
HeadTaken held room left (Err Memory) = ⊤
HeadTaken held room left (Err BadChunk) = ⊥

-- the same of a reply
abbrev pub IsReplyFront : List ℕ → List HeaderSpan → Front ResponseSpans → Type 0
IsReplyFront buf room (Head spans) = IsResponseOf buf room spans × IsResponseWithin buf room spans
IsReplyFront buf room Unfinished = MayBecomeReply buf
IsReplyFront buf room Bad = NeverHasResponse buf

-- the same of a reply's head within so many bytes
abbrev pub ReplyTaken : ℕ → List ℕ → List HeaderSpan → Option (List ℕ) → Result ResponseSpans EdgeFault → Type 0
ReplyTaken limit held room left (Ok spans) = IsResponseOf (take limit held) room spans × IsResponseWithin (take limit held) room spans
ReplyTaken limit held room left (Err BadHead) = NeverHasResponse (take limit held)
ReplyTaken limit held room left (Err HeadTooLong) = MayBecomeReply (take limit held) × (limit ≤ length held)
ReplyTaken limit held room left (Err (Cut n)) = MayBecomeReply (take limit held) × (length held < limit) × (n ≡ length held) × IsAtEnd left
ReplyTaken limit held room left (Err ReadFault) = MayBecomeReply (take limit held) × (length held < limit)
ReplyTaken limit held room left (Err Memory) = ⊤
ReplyTaken limit held room left (Err BadChunk) = ⊥
