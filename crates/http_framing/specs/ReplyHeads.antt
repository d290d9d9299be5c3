-- The same of the head of a reply (RFC 9112, sections 2, 4 and 5), within so many bytes.
use Rattle.std.specs.Prelude.{◌≡◌, ◌≤◌, ◌<◌, ℕ, List, length, take}
use Rattle.httparse.specs.Grammar.{ResponseHead, print_response, ReadsResponse, HasNoResponse, NeverHasResponse, MayBecomeResponse}
use Rattle.http_framing.specs.declared.fault.EdgeFault.{EdgeFault}
use Rattle.http_framing.specs.declared.fault.EdgeFault.TheVariants.{BadHead, HeadTooLong, Cut}

-- no head stands at the front, and the bytes may still become one
abbrev pub MayBecomeReply : List ℕ → Type 0
MayBecomeReply buf = HasNoResponse buf × MayBecomeResponse buf

-- a head of at most so many bytes stands at the front
pub record HasReplyHead (room : ℕ) (bytes : List ℕ) (h : ResponseHead) (after : List ℕ) : Type 0 where
  pub reads : ReadsResponse bytes h after
  pub within : length (print_response h) ≤ room

-- why no head stands at the front of all that is left
abbrev pub LacksReplyHead : ℕ → List ℕ → EdgeFault → Type 0
LacksReplyHead room bytes BadHead = NeverHasResponse (take room bytes)
LacksReplyHead room bytes HeadTooLong = MayBecomeReply (take room bytes) × (room ≤ length bytes)
LacksReplyHead room bytes (Cut n) = MayBecomeReply (take room bytes) × (length bytes < room) × (n ≡ length bytes)
LacksReplyHead room bytes f = ⊥

-- no head stands in these bytes, and they may still become one
abbrev pub AwaitsReplyHead : ℕ → List ℕ → Type 0
AwaitsReplyHead room bytes = MayBecomeReply (take room bytes) × (length bytes < room)
