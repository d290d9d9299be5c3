-- What the steps of reading a reply come to.
use Rattle.std.specs.Prelude.{◌≡◌, ℕ, ◌+◌, ◌-◌, ◌≤◌, ◌⊎◌, Bool, false, List, [], ◌++◌, length, map, ⊤, Result, Ok, Err}
use Rattle.httparse.specs.Grammar.{ResponseHead, print_response, status_code}
use Rattle.http_framing.specs.ReplyHeads.{HasReplyHead, LacksReplyHead, AwaitsReplyHead}
use Rattle.http_framing.specs.declared.framing.Framing.{Framing}
use Rattle.http_framing.specs.declared.framing.Framing.TheVariants.{TooMany, Wrong, Absent}
use Rattle.http_framing.specs.declared.fault.EdgeFault.{EdgeFault}
use Rattle.http_framing.specs.declared.fault.EdgeFault.TheVariants.{BadHead, HeadTooLong, Cut, ReadFault, Memory}
use Rattle.http_edge.specs.Replies.{reply_headers, reply_framing, Passes, HasFinalHead, LacksFinalHead, IsReplyBody}
use Rattle.http_edge.specs.Texts.{header_of}
use Rattle.http_edge.specs.declared.reply_head.ReplyBegun.{ReplyBegun}

-- a reply that a head begins
pub record IsReplyBegun (h : ResponseHead) (b : ReplyBegun) : Type 0 where
  pub status : b.status ≡ status_code h
  pub headers : b.headers ≡ map header_of (reply_headers h)
  pub framing : b.framing ≡ reply_framing h

-- what reading a head within so many bytes came to, with what is held then and what the source has left
abbrev pub ReplyHeadRead : ℕ → List ℕ → List ℕ → List ℕ → Result ReplyBegun EdgeFault → Type 0
ReplyHeadRead room bytes held left (Ok b) = (h : ResponseHead) × HasReplyHead room bytes h (held ++ left) × IsReplyBegun h b × (b.len ≡ length (print_response h))
ReplyHeadRead room bytes held left (Err (Cut n)) = LacksReplyHead room bytes (Cut n) × (left ≡ [])
ReplyHeadRead room bytes held left (Err ReadFault) = (taken : List ℕ) × (bytes ≡ taken ++ left) × AwaitsReplyHead room taken
ReplyHeadRead room bytes held left (Err Memory) = ⊤
ReplyHeadRead room bytes held left (Err f) = LacksReplyHead room bytes f

-- heads of interim replies were passed over, of so many bytes
abbrev pub PassedOver : ℕ → List ℕ → List ℕ → List ℕ → Unit {0} → Type 0
PassedOver gone bytes held left u = (hs : List ResponseHead) × Passes hs 10240 bytes (10240 - gone) (held ++ left) × (gone + length (held ++ left) ≡ length bytes)

-- what reading the head of the reply came to; all heads have so many bytes
abbrev pub FinalRead : List ℕ → List ℕ → List ℕ → Result ReplyBegun EdgeFault → Type 0
FinalRead bytes held left (Ok b) = (h : ResponseHead) × HasFinalHead bytes h (held ++ left) × IsReplyBegun h b × (b.len + length (held ++ left) ≡ length bytes)
FinalRead bytes held left (Err (Cut n)) = LacksFinalHead bytes (Cut n) × (left ≡ [])
FinalRead bytes held left (Err ReadFault) = (taken : List ℕ) × (bytes ≡ taken ++ left) × LacksFinalHead taken (Cut (length taken))
FinalRead bytes held left (Err Memory) = ⊤
FinalRead bytes held left (Err f) = LacksFinalHead bytes f

-- a body of which these bytes were taken may go on
abbrev pub GoesOn : Bool → Framing → List ℕ → Type 0
GoesOn bare framing taken =
    IsReplyBody bare framing taken (Err (Cut (length taken))) [] ⊎ ((framing ≡ Absent) × (bare ≡ false) × (length taken ≤ 10485760))

-- what reading the body behind a head that says this came to
abbrev pub ReplyBodyRead : Bool → Framing → List ℕ → List ℕ → List ℕ → Result (List ℕ) EdgeFault → Type 0
ReplyBodyRead bare framing bytes held left (Ok body) = IsReplyBody bare framing bytes (Ok body) (held ++ left)
ReplyBodyRead bare framing bytes held left (Err (Cut k)) = IsReplyBody bare framing bytes (Err (Cut k)) [] × (left ≡ [])
ReplyBodyRead bare framing bytes held left (Err ReadFault) = (taken : List ℕ) × (bytes ≡ taken ++ left) × GoesOn bare framing taken
ReplyBodyRead bare framing bytes held left (Err Memory) = ⊤
ReplyBodyRead bare framing bytes held left (Err f) = IsReplyBody bare framing bytes (Err f) []

-- what a reply without a body comes to, whose head says this
abbrev pub none_read : Framing → Result (List ℕ) EdgeFault
none_read TooMany = Err HeadTooLong
none_read Wrong = Err BadHead
none_read f = Ok []
