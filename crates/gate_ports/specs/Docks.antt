-- What a port in memory holds, and what a look changes of it.
use Rattle.std.specs.Prelude.{◌≡◌, ℕ, List, [], ◌∷◌, Bool, true, ◌⊎◌, Result, Ok, Err}
use Rattle.gw_base.specs.Feed.{Feed, Tray, raised}
use Rattle.gw_base.specs.declared.outside.Failed.{Failed}
use Rattle.gate_ports.specs.declared.port.Accepted.{Accepted}
use Rattle.gate_ports.specs.declared.port.Accepted.TheVariants.{Conn, NotYet, Ended}
use Rattle.gate_ports.specs.Facts.{ComingFacts, ServedFacts}

-- a connection in memory: what is read on it, and what is written
pub record ConnFacts : Type 0 where
  pub source : Feed
  pub sink : Tray

-- nothing was written on it
abbrev pub IsUnwritten : ConnFacts → Type 0
IsUnwritten conn = conn.sink.written ≡ []

abbrev pub coming_of : ConnFacts → ComingFacts
coming_of conn = record { left = conn.source.left; read_faults = conn.source.faults; write_faults = conn.sink.faults }

abbrev pub served_of : ConnFacts → ServedFacts
served_of conn = record { written = conn.sink.written; left = conn.source.left; read_faults = conn.source.faults; write_faults = conn.sink.faults }

-- the connections to come and given back, whether it was shut, whether one is out, which looks fail, how many were made, and
-- how many of them failed
pub record PortFacts : Type 0 where
  pub coming : List ConnFacts
  pub served : List ConnFacts
  pub closed : Bool
  pub out : Bool
  pub fails : List ℕ
  pub calls : ℕ
  pub faults : ℕ

-- what a look found, and what it changed
abbrev pub Looks : Result (Accepted ConnFacts) Failed → PortFacts → PortFacts → Type 0
Looks (Ok (Conn link)) old new = (old.coming ≡ link ∷ new.coming) × (new ≡ record old { coming = new.coming; out = true; calls = raised old.calls })
Looks (Ok NotYet) old new = ⊥
Looks (Ok Ended) old new = ((old.coming ≡ []) ⊎ (old.closed ≡ true)) × (new ≡ record old { calls = raised old.calls })
Looks (Err failed) old new = new ≡ record old { calls = raised old.calls; faults = raised old.faults }
