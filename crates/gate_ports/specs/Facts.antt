-- What contracts see of connections and of a lane.
use Rattle.std.specs.Prelude.{◌≡◌, ℕ, List, [], Option, Some, None}
use Rattle.backend_core.specs.declared.request.WireRequest.{WireRequest}
use Rattle.backend_core.specs.declared.outcome.Outcome.{Outcome}

-- a connection that is not accepted yet: the bytes that are left to read, and how often a read and a write of it failed
pub record ComingFacts : Type 0 where
  pub left : List ℕ
  pub read_faults : ℕ
  pub write_faults : ℕ

-- a connection that was given back: the bytes that were written on it, and as above
pub record ServedFacts : Type 0 where
  pub written : List ℕ
  pub left : List ℕ
  pub read_faults : ℕ
  pub write_faults : ℕ

-- what a connection tells of itself
pub record ConnTold : Type 0 where
  pub left : Option (List ℕ)
  pub written : Option (List ℕ)
  pub read_faults : ℕ
  pub write_faults : ℕ

-- it tells all, and is the one of these facts, on which nothing was written
abbrev pub IsComing : ComingFacts → ConnTold → Type 0
IsComing facts told = told ≡ record { left = Some facts.left; written = Some []; read_faults = facts.read_faults; write_faults = facts.write_faults }

-- it tells all, and is the one of these facts
abbrev pub IsServed : ServedFacts → ConnTold → Type 0
IsServed facts told = told ≡ record { left = Some facts.left; written = Some facts.written; read_faults = facts.read_faults; write_faults = facts.write_faults }

-- a lane: its connections to come and given back, its backend's requests and outcomes, and the readings of its clock and of
-- its random words, where all are equal
pub record LaneFacts : Type 0 where
  pub coming : List ComingFacts
  pub served : List ServedFacts
  pub sent : List WireRequest
  pub given : List Outcome
  pub moment : Option ℕ
  pub word : Option ℕ

-- the facts of a lane, where its port and its backend tell theirs
abbrev pub lane_facts : Option (List ComingFacts) → Option (List ServedFacts) → Option (List WireRequest) → Option (List Outcome) → Option ℕ → Option ℕ → Option LaneFacts
lane_facts (Some coming) (Some served) (Some sent) (Some given) moment word = Some (record { coming = coming; served = served; sent = sent; given = given; moment = moment; word = word })
lane_facts coming served sent given moment word = None
