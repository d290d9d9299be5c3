-- What holds of messages and replies.
use Rattle.std.specs.Prelude.{◌≡◌, ℕ, Bool, List, Result}
use Rattle.call_facts.specs.declared.request.WireReply.{WireReply}
use Rattle.http_framing.specs.declared.fault.EdgeFault.{EdgeFault}
use Rattle.http_edge.specs.Messages.{IsNext, IsRun}
use Rattle.http_edge.specs.Replies.{IsReply}
use Rattle.http_edge.specs.declared.incoming.Incoming.{Incoming}

-- what stands next is one thing, and so is what is left behind it
abbrev pub OneStandsNext : Type 0
OneStandsNext = (bytes : List ℕ) (a b : Result Incoming EdgeFault) (x y : List ℕ) → IsNext bytes a x → IsNext bytes b y → (a ≡ b) × (x ≡ y)

-- the messages of a stream are one list, and its end is one
abbrev pub HasOneRun : Type 0
HasOneRun = (bytes : List ℕ) (ms ns : List Incoming) (a b : Result Incoming EdgeFault) → IsRun bytes ms a → IsRun bytes ns b → (ms ≡ ns) × (a ≡ b)

-- what a reply comes to is one thing, and so is what is left behind it
abbrev pub HasOneReply : Type 0
HasOneReply = (bodiless : Bool) (bytes : List ℕ) (a b : Result WireReply EdgeFault) (x y : List ℕ) → IsReply bodiless bytes a x → IsReply bodiless bytes b y → (a ≡ b) × (x ≡ y)
