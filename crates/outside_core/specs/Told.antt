-- What a lane tells.
use Rattle.std.specs.Prelude.{ℕ, List, Option, Bool}
use Rattle.backend_core.specs.declared.request.WireRequest.{WireRequest}
use Rattle.backend_core.specs.declared.outcome.Outcome.{Outcome}
use Rattle.gate_ports.specs.Facts.{ComingFacts, ServedFacts}

-- what a lane tells: its connections to come and given back, its backend's requests and outcomes, the readings of its clock and of
-- its random words where all are equal; whether its port was shut, whether a connection is out, and how often a look failed
pub record LaneTold : Type 0 where
  pub coming : Option (List ComingFacts)
  pub served : Option (List ServedFacts)
  pub sent : Option (List WireRequest)
  pub given : Option (List Outcome)
  pub moment : Option ℕ
  pub word : Option ℕ
  pub closed : Bool
  pub out : Bool
  pub faults : ℕ

-- the same, by what its port, its backend, its clock and its words tell
abbrev pub told_of : Option (List ComingFacts) → Option (List ServedFacts) → Option (List WireRequest) → Option (List Outcome) → Option ℕ → Option ℕ → Bool → Bool → ℕ → LaneTold
told_of coming served sent given moment word closed out faults =
    record { coming = coming; served = served; sent = sent; given = given; moment = moment; word = word; closed = closed; out = out; faults = faults }
