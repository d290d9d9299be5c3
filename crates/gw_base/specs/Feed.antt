-- What a source and a sink in memory hold, and what their calls do.
use Rattle.std.specs.Prelude.{ℕ, ◌+◌, ◌-◌, ◌^◌, ◌==◌, Bool, min, List, ◌++◌, drop}
use Rattle.std.specs.List.{list_any}

-- the bytes that are left, the most of them that a read gives, which calls fail, how many calls were made, and how many of them failed
pub record Feed : Type 0 where
  pub left : List ℕ
  pub step : ℕ
  pub fails : List ℕ
  pub calls : ℕ
  pub faults : ℕ

-- the bytes that were written, which calls fail, how many calls were made, and how many of them failed
pub record Tray : Type 0 where
  pub written : List ℕ
  pub fails : List ℕ
  pub calls : ℕ
  pub faults : ℕ

-- a count of 64 bits, raised by one; at its greatest value it stays
abbrev pub raised : ℕ → ℕ
raised count = min (count + 1) (2 ^ 64 - 1)

-- the call of this number is one of those that fail
abbrev pub is_listed : List ℕ → ℕ → Bool
is_listed fails call = list_any (λ n. n == call) fails

-- a source after a read that gave so many bytes
abbrev pub fed : Feed → ℕ → Feed
fed feed n = record feed { left = drop n feed.left; calls = raised feed.calls }

-- a source after a read that failed
abbrev pub unfed : Feed → Feed
unfed feed = record feed { calls = raised feed.calls; faults = raised feed.faults }

-- a sink after a write that took these bytes
abbrev pub laid : Tray → List ℕ → Tray
laid tray bytes = record tray { written = tray.written ++ bytes; calls = raised tray.calls }

-- a sink after a write that failed
abbrev pub unlaid : Tray → Tray
unlaid tray = record tray { calls = raised tray.calls; faults = raised tray.faults }
