-- What contracts see of connections and ports over sockets.
use Rattle.std.specs.Prelude.{◌≡◌, ℕ, Bool, false}

-- a connection: how often a read and a write of it have failed
pub record ConnCounts : Type 0 where
  pub read_faults : ℕ
  pub write_faults : ℕ

-- none of its calls has failed
abbrev pub IsUnfailed : ConnCounts → Type 0
IsUnfailed conn = conn ≡ record { read_faults = 0; write_faults = 0 }

-- a port: whether it was shut, whether a connection is out, and how often a look has failed
pub record PortStand : Type 0 where
  pub closed : Bool
  pub out : Bool
  pub faults : ℕ

-- it was not shut, no connection is out, and no look has failed
abbrev pub IsFresh : PortStand → Type 0
IsFresh port = port ≡ record { closed = false; out = false; faults = 0 }

-- a backend: how often an exchange has failed, and how often time has lapsed
pub record BackendCounts : Type 0 where
  pub faults : ℕ
  pub lapses : ℕ

-- a connection to a backend: whether the last call that failed ran out of time, and how often a read and a write have failed
pub record LinkStand : Type 0 where
  pub lapsed : Bool
  pub read_faults : ℕ
  pub write_faults : ℕ
