-- Where a cut is counted from.
use Rattle.std.specs.Prelude.{ℕ, ◌+◌, ◌<◌, ⊤}
use Rattle.http_framing.specs.declared.fault.EdgeFault.{EdgeFault}
use Rattle.http_framing.specs.declared.fault.EdgeFault.TheVariants.{Cut}

-- a cut that comes after fewer bytes than this
abbrev pub CutBelow : ℕ → EdgeFault → Type 0
CutBelow limit (Cut k) = k < limit
CutBelow limit f = ⊤

-- a fault behind so many bytes
abbrev pub shifted : ℕ → EdgeFault → EdgeFault
shifted len (Cut k) = Cut (len + k)
shifted len f = f
