-- What the body behind a head comes to (RFC 9112, sections 6.3 and 7.1): all of it, that it passes 10,485,760 bytes, or a fault; and what is left behind it.
use Rattle.std.specs.Prelude.{◌≡◌, ℕ, ◌<◌, ◌≤◌, List, [], ◌++◌, length, Result, Ok, Err}
use Rattle.http_framing.specs.Chunks.{Chunks, content, LastChunk, PassesLimit, WrongChunk, LongTrailers, AwaitsChunk}
use Rattle.http_framing.specs.declared.body.Body.{Body}
use Rattle.http_framing.specs.declared.body.Body.TheVariants.{Read, PastLimit}
use Rattle.http_framing.specs.declared.fault.EdgeFault.{EdgeFault}
use Rattle.http_framing.specs.declared.fault.EdgeFault.TheVariants.{HeadTooLong, BadChunk, Cut}

-- a body of so many bytes; of one that passes the limit nothing is used
abbrev pub IsKnown : ℕ → List ℕ → Result Body EdgeFault → List ℕ → Type 0
IsKnown n bytes (Ok (Read body)) rest = (length body ≡ n) × (n ≤ 10485760) × (bytes ≡ body ++ rest)
IsKnown n bytes (Ok PastLimit) rest = (10485760 < n) × (rest ≡ bytes)
IsKnown n bytes (Err (Cut k)) rest = (n ≤ 10485760) × (length bytes < n) × (k ≡ length bytes)
IsKnown n bytes (Err f) rest = ⊥

-- what stands behind whole chunks with these data, in a body of so many bytes
abbrev pub Closes : List ℕ → ℕ → List ℕ → Result Body EdgeFault → List ℕ → Type 0
Closes before count at (Ok (Read body)) rest = (body ≡ before) × LastChunk at rest
Closes before count at (Ok PastLimit) rest = PassesLimit (length before) at rest
Closes before count at (Err BadChunk) rest = WrongChunk (length before) at
Closes before count at (Err HeadTooLong) rest = LongTrailers at
Closes before count at (Err (Cut k)) rest = AwaitsChunk (length before) at × (k ≡ count)
Closes before count at (Err f) rest = ⊥

-- a body in chunks
abbrev pub IsChunked : List ℕ → Result Body EdgeFault → List ℕ → Type 0
IsChunked bytes result rest =
    (pieces : List (List ℕ)) × (at : List ℕ) × Chunks pieces bytes at × (length (content pieces) ≤ 10485760) × Closes (content pieces) (length bytes) at result rest

-- a body that is all up to the end of the input; one that passes the limit is BadChunk
abbrev pub IsRest : List ℕ → Result (List ℕ) EdgeFault → List ℕ → Type 0
IsRest bytes (Ok body) rest = (body ≡ bytes) × (rest ≡ []) × (length bytes ≤ 10485760)
IsRest bytes (Err BadChunk) rest = 10485760 < length bytes
IsRest bytes (Err f) rest = ⊥
