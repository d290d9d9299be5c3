-- What one exchange over a connection to a backend comes to.
use Rattle.std.specs.Prelude.{◌≡◌, ℕ, ◌≤◌, ◌<◌, ◌⊎◌, Bool, true, List, [], Option, ⊤, Result, Ok, Err}
use Rattle.std.specs.Io.KnownBytes.{Appends}
use Rattle.gw_base.specs.Outside.{Rose}
use Rattle.backend_core.specs.declared.outcome.Outcome.{Outcome}
use Rattle.backend_core.specs.declared.outcome.Outcome.TheVariants.{Reply, Failed, TimedOut, Memory}
use Rattle.call_facts.specs.declared.request.WireReply.{WireReply}
use Rattle.http_framing.specs.Stream.{Over}
use Rattle.http_framing.specs.declared.fault.EdgeFault.{EdgeFault}
use Rattle.http_framing.specs.declared.fault.EdgeFault.TheVariants as fault
use Rattle.http_edge.specs.Replies.{Replies}

-- what a connection to a backend tells: what is left to read, what was written, how often a read and a write failed, and
-- whether the last of these ran out of time
pub record LinkTold : Type 0 where
  pub left : Option (List ℕ)
  pub written : Option (List ℕ)
  pub read_faults : ℕ
  pub write_faults : ℕ
  pub lapsed : Bool

-- a read or a write failed
abbrev pub HasFailed : LinkTold → LinkTold → Type 0
HasFailed old new = Rose old.read_faults new.read_faults ⊎ Rose old.write_faults new.write_faults

-- this is what the bytes that came begin with
abbrev pub BeginsWith : Bool → Option (List ℕ) → Option (List ℕ) → Result WireReply EdgeFault → Type 0
BeginsWith bodiless before now what = (held : List ℕ) × Over (Replies bodiless) [] before held now what

-- no reply that can be passed on: none of HTTP, or one whose status is not from 200 to 999
abbrev pub IsNoReply : Result WireReply EdgeFault → Type 0
IsNoReply (Ok reply) = (reply.status < 200) ⊎ (999 < reply.status)
IsNoReply (Err fault.ReadFault) = ⊥
IsNoReply (Err fault.Memory) = ⊥
IsNoReply (Err other) = ⊤

-- What was heard of the backend: a reply is what its bytes begin with.
abbrev pub Heard : Bool → LinkTold → LinkTold → Outcome → Type 0
Heard bodiless old new (Reply reply) = (200 ≤ reply.status) × (reply.status ≤ 999) × BeginsWith bodiless old.left new.left (Ok reply)
Heard bodiless old new TimedOut = Rose old.read_faults new.read_faults × (new.lapsed ≡ true)
Heard bodiless old new Failed =
    Rose old.read_faults new.read_faults ⊎ ((what : Result WireReply EdgeFault) × BeginsWith bodiless old.left new.left what × IsNoReply what)
Heard bodiless old new Memory = ⊤

-- What an exchange comes to. A reply counts where the request was not taken whole, too, so a write that fails while time is left is no
-- failure before the reply was asked for (RFC 9112, section 9.5).
abbrev pub CameTo : Bool → List ℕ → LinkTold → LinkTold → Outcome → Type 0
CameTo bodiless request old new (Reply reply) =
    Heard bodiless old new (Reply reply) × (Appends old.written new.written request ⊎ Rose old.write_faults new.write_faults)
CameTo bodiless request old new TimedOut = HasFailed old new × (new.lapsed ≡ true)
CameTo bodiless request old new Failed = Heard bodiless old new Failed
CameTo bodiless request old new Memory = ⊤
