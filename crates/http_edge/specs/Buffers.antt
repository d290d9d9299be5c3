-- What a buffer keeps between two calls.
use Rattle.std.specs.Prelude.{◌≡◌, ℕ, List, [], Option, Some, None, Result, Ok, Err}
use Rattle.http_framing.specs.declared.fault.EdgeFault.{EdgeFault}

-- bytes that were taken and are not yet used, and the fault that it answers from now on
pub record Pending : Type 0 where
  pub bytes : List ℕ
  pub fault : Option EdgeFault

-- a buffer that keeps a fault alone
abbrev pub emptied : EdgeFault → Pending
emptied f = record { bytes = []; fault = Some f }

-- a fault is kept, and nothing beside it; else none is
abbrev pub KeepsFault : {T : Type 0} → Pending → Result T EdgeFault → Type 0
KeepsFault new (Ok v) = new.fault ≡ None
KeepsFault new (Err f) = new ≡ emptied f
