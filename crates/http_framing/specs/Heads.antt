-- When a request's head stands at the front of bytes, and why none does: by the grammar of `httparse` (RFC 9112, sections 2, 3 and 5), within 10,240 bytes. A target is judged only once the space behind it stands.
use Rattle.std.specs.Prelude.{◌≡◌, ◌≤◌, ◌<◌, ℕ, List, length, take}
use Rattle.httparse.specs.Grammar.{RequestHead, print_request, ReadsRequest, HasNoRequest, NeverHasRequest, EndsInTarget}
use Rattle.http_framing.specs.declared.fault.EdgeFault.{EdgeFault}
use Rattle.http_framing.specs.declared.fault.EdgeFault.TheVariants.{BadHead, HeadTooLong, Cut}

-- no bytes can follow that make a head, and the target does not wait for its end
abbrev pub IsBadHead : List ℕ → Type 0
IsBadHead buf = NeverHasRequest buf × ¬ (EndsInTarget buf)

-- no head stands at the front, and the bytes may still become one
abbrev pub IsUnfinished : List ℕ → Type 0
IsUnfinished buf = HasNoRequest buf × ¬ (IsBadHead buf)

-- a head of at most 10,240 bytes stands at the front, with its leading empty lines and its closing one
pub record HasHead (bytes : List ℕ) (h : RequestHead) (after : List ℕ) : Type 0 where
  pub reads : ReadsRequest bytes h after
  pub within : length (print_request h) ≤ 10240

-- why no head stands at the front of all that is left
abbrev pub LacksHead : List ℕ → EdgeFault → Type 0
LacksHead bytes BadHead = IsBadHead (take 10240 bytes)
LacksHead bytes HeadTooLong = IsUnfinished (take 10240 bytes) × (10240 ≤ length bytes)
LacksHead bytes (Cut n) = IsUnfinished (take 10240 bytes) × (length bytes < 10240) × (n ≡ length bytes) × (0 < n)
LacksHead bytes f = ⊥

-- no head stands in these bytes, and they may still become one
abbrev pub AwaitsHead : List ℕ → Type 0
AwaitsHead bytes = IsUnfinished (take 10240 bytes) × (length bytes < 10240)
