-- What contracts see of the machine, and of its ports.
use Rattle.std.specs.Prelude.{◌≡◌, ℕ, nat_lt, Bool, false, List}
use Rattle.gw_base.specs.declared.readings.SplitMix.{SplitMix}
use Rattle.gate_ports.specs.declared.gate.FreeGate.{FreeGate}
use Rattle.gate_ports.specs.declared.lane.Lane.{Lane}
use Rattle.gateway_outside.specs.Stands.{BackendCounts, PortStand}

-- the names of the stores whose keepers are lent, the one that was lent last first; how many lanes are lent; and how often it has failed
pub record MachineStand : Type 0 where
  pub keepers_out : List (List ℕ)
  pub lanes_out : ℕ
  pub faults : ℕ

-- a port, and how often a look at it has failed
pub record Counted (P : Type 0) : Type 0 where
  pub port : P
  pub faults : ℕ

-- a lane over sockets, whose times are of this type
abbrev pub SocketLane : Type 0 → Type 0
SocketLane T = Lane (Counted PortStand) BackendCounts T SplitMix FreeGate

-- of a lane the port was not shut, has no connection out, and no look at it has failed
abbrev pub IsUnusedLane : {T : Type 0} → SocketLane T → Type 0
IsUnusedLane lane = (lane.port.port.closed ≡ false) × (lane.port.port.out ≡ false) × (lane.port.faults ≡ 0)

-- a look at the lane's port has failed
abbrev pub has_failed : {T : Type 0} → SocketLane T → Bool
has_failed lane = nat_lt 0 lane.port.faults
