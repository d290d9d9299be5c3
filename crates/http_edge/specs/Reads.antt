-- What the steps of reading a message come to.
use Rattle.std.specs.Prelude.{◌≡◌, ℕ, zero, List, [], ◌++◌, length, ⊤, Result, Ok, Err}
use Rattle.httparse.specs.Grammar.{RequestHead, print_request}
use Rattle.call_facts.specs.declared.request.Request.{Request}
use Rattle.http_framing.specs.Faults.{shifted}
use Rattle.http_framing.specs.Heads.{HasHead, LacksHead, AwaitsHead}
use Rattle.http_framing.specs.declared.body.Body.{Body}
use Rattle.http_framing.specs.declared.body.Body.TheVariants.{Read, PastLimit}
use Rattle.http_framing.specs.declared.fault.EdgeFault.{EdgeFault}
use Rattle.http_framing.specs.declared.fault.EdgeFault.TheVariants.{Cut, ReadFault, Memory}
use Rattle.http_edge.specs.Messages.{framing, request_of, with_body}
use Rattle.http_edge.specs.declared.incoming.Incoming.{Incoming}
use Rattle.http_edge.specs.declared.incoming.Incoming.TheVariants.{Whole, TooLarge, End}
use Rattle.http_edge.specs.declared.request.Begun.{Begun}

-- a message that a head begins
pub record IsBegun (h : RequestHead) (b : Begun) : Type 0 where
  pub request : b.request ≡ request_of h []
  pub framing : b.framing ≡ framing h
  pub len : b.len ≡ length (print_request h)

-- what reading a head of these bytes came to, with what is held then and what the source has left
abbrev pub HeadRead : List ℕ → List ℕ → List ℕ → Result Begun EdgeFault → Type 0
HeadRead bytes held left (Ok b) = (h : RequestHead) × HasHead bytes h (held ++ left) × IsBegun h b
HeadRead bytes held left (Err (Cut n)) = AwaitsHead bytes × (n ≡ length bytes) × (held ++ left ≡ bytes) × (left ≡ [])
HeadRead bytes held left (Err ReadFault) = (taken : List ℕ) × (bytes ≡ taken ++ left) × AwaitsHead taken
HeadRead bytes held left (Err Memory) = ⊤
HeadRead bytes held left (Err f) = LacksHead bytes f

-- an end before the first byte of a head is no fault
abbrev pub ended : EdgeFault → Result Incoming EdgeFault
ended (Cut zero) = Ok End
ended f = Err f

-- what a message comes to behind a head of this length
abbrev pub told : Request → ℕ → Result Body EdgeFault → Result Incoming EdgeFault
told r len (Ok (Read body)) = Ok (Whole (with_body r body))
told r len (Ok PastLimit) = Ok (TooLarge r)
told r len (Err f) = Err (shifted len f)
