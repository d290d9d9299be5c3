-- What a port lends and takes back.
use Rattle.std.specs.Prelude.{◌≡◌, List, [], ◌∷◌, ◌++◌, Option, Some, None, Bool, true, false, ⊤, ◌⊎◌, Result, Ok}
use Rattle.gw_base.specs.declared.outside.Failed.{Failed}
use Rattle.gate_ports.specs.declared.port.Accepted.{Accepted}
use Rattle.gate_ports.specs.declared.port.Accepted.TheVariants.{Conn, Ended}
use Rattle.gate_ports.specs.Facts.{ComingFacts, ServedFacts, ConnTold, IsComing, IsServed}

-- a look lent a connection
abbrev pub is_lent : {L : Type 0} → Result (Accepted L) Failed → Bool
is_lent (Ok (Conn link)) = true
is_lent look = false

-- a look found that none will come
abbrev pub is_ended : {L : Type 0} → Result (Accepted L) Failed → Bool
is_ended (Ok Ended) = true
is_ended look = false

-- this holds of the connection that a look lent, if it lent one
abbrev pub IfLent : {L : Type 0} → Result (Accepted L) Failed → (L → Type 0) → Type 0
IfLent (Ok (Conn link)) Holds = Holds link
IfLent look Holds = ⊤

-- the connection was the first of those to come, where these are told, and the others stay
abbrev pub Lent : ConnTold → Option (List ComingFacts) → Option (List ComingFacts) → Type 0
Lent told None new = new ≡ None
Lent told (Some coming) new = (first : ComingFacts) × (rest : List ComingFacts) × (coming ≡ first ∷ rest) × (new ≡ Some rest) × IsComing first told

-- the connection is the last of those given back, where these are told
abbrev pub GivenBack : ConnTold → Option (List ServedFacts) → Option (List ServedFacts) → Type 0
GivenBack told None new = new ≡ None
GivenBack told (Some served) new = (last : ServedFacts) × (new ≡ Some (served ++ last ∷ [])) × IsServed last told

-- where what is to come is told, nothing is, or the port was shut
abbrev pub HasNoMore : Option (List ComingFacts) → Bool → Type 0
HasNoMore None closed = ⊤
HasNoMore (Some coming) closed = (coming ≡ []) ⊎ (closed ≡ true)
