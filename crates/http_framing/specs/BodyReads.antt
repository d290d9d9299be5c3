-- What the steps of reading a body come to.
use Rattle.std.specs.Prelude.{◌≡◌, ℕ, ◌<◌, ◌≤◌, List, [], ◌++◌, length, ⊤, Option, Result, Ok, Err}
use Rattle.std.specs.Io.KnownBytes.{IsAtEnd}
use Rattle.http_framing.specs.Bodies.{IsRest}
use Rattle.http_framing.specs.declared.body.Body.{Body}
use Rattle.http_framing.specs.declared.fault.EdgeFault.{EdgeFault}
use Rattle.http_framing.specs.declared.fault.EdgeFault.TheVariants.{BadChunk, Cut, ReadFault, Memory}

-- what reading a body of this kind came to, with what is held then and what the source has left. Where a read failed, what was taken may still go on; where the input was cut, nothing is left
abbrev pub BodyRead : (List ℕ → Result Body EdgeFault → List ℕ → Type 0) → List ℕ → List ℕ → List ℕ → Result Body EdgeFault → Type 0
BodyRead Is bytes held left (Ok body) = Is bytes (Ok body) (held ++ left)
BodyRead Is bytes held left (Err (Cut k)) = Is bytes (Err (Cut k)) [] × (left ≡ [])
BodyRead Is bytes held left (Err ReadFault) = (taken : List ℕ) × (bytes ≡ taken ++ left) × Is taken (Err (Cut (length taken))) []
BodyRead Is bytes held left (Err Memory) = ⊤
BodyRead Is bytes held left (Err f) = Is bytes (Err f) []

-- so many bytes are held, or fewer stand before the end or a fault
abbrev pub BytesAwaited : ℕ → List ℕ → Option (List ℕ) → Result (Unit {0}) EdgeFault → Type 0
BytesAwaited n held left (Ok v) = n ≤ length held
BytesAwaited n held left (Err (Cut k)) = (length held < n) × (k ≡ length held) × IsAtEnd left
BytesAwaited n held left (Err ReadFault) = length held < n
BytesAwaited n held left (Err Memory) = ⊤
BytesAwaited n held left (Err f) = ⊥

-- what reading so many bytes came to
abbrev pub BytesRead : ℕ → List ℕ → List ℕ → List ℕ → Result (List ℕ) EdgeFault → Type 0
BytesRead n bytes held left (Ok body) = (length body ≡ n) × (bytes ≡ body ++ (held ++ left))
BytesRead n bytes held left (Err (Cut k)) = (length bytes < n) × (k ≡ length bytes) × (left ≡ [])
BytesRead n bytes held left (Err ReadFault) = (taken : List ℕ) × (bytes ≡ taken ++ left) × (length taken < n)
BytesRead n bytes held left (Err Memory) = ⊤
BytesRead n bytes held left (Err f) = ⊥

-- the input ended, or more stands than a body may have
abbrev pub RestAwaited : List ℕ → Option (List ℕ) → Result (Unit {0}) EdgeFault → Type 0
RestAwaited held left (Ok v) = (length held ≤ 10485760) × IsAtEnd left
RestAwaited held left (Err BadChunk) = 10485760 < length held
RestAwaited held left (Err ReadFault) = length held ≤ 10485760
RestAwaited held left (Err Memory) = ⊤
RestAwaited held left (Err f) = ⊥

-- what reading up to the end came to
abbrev pub RestRead : List ℕ → List ℕ → List ℕ → Result (List ℕ) EdgeFault → Type 0
RestRead bytes held left (Ok body) = IsRest bytes (Ok body) (held ++ left)
RestRead bytes held left (Err ReadFault) = (taken : List ℕ) × (bytes ≡ taken ++ left) × (length taken ≤ 10485760)
RestRead bytes held left (Err Memory) = ⊤
RestRead bytes held left (Err f) = IsRest bytes (Err f) []
