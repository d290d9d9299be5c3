-- What the steps of reading a chunked body come to.
use Rattle.std.specs.Prelude.{◌≡◌, ℕ, ◌+◌, ◌<◌, ◌≤◌, List, [], ◌∷◌, ◌++◌, length, take, drop, ⊤, Option, Some, None, Result, Ok, Err}
use Rattle.std.specs.Io.KnownBytes.{IsAtEnd}
use Rattle.httparse.specs.Grammar.{ChunkLine}
use Rattle.httparse.specs.Spans.{IsChunkLineAt}
use Rattle.http_framing.specs.Chunks.{HasLine, BadLine, AwaitsLine, closing, trailers, Chunk, Chunks, content, LastChunk, PassesLimit, WrongChunk, LongTrailers, AwaitsChunk}
use Rattle.http_framing.specs.declared.chunks.Step.{Step}
use Rattle.http_framing.specs.declared.chunks.Step.TheVariants.{More, Last, TooLarge}
use Rattle.http_framing.specs.declared.chunk.SizeLine.{SizeLine}
use Rattle.http_framing.specs.declared.chunk.Closing.TheVariants.{There, Awaited, Wrong}
use Rattle.http_framing.specs.declared.fault.EdgeFault.{EdgeFault}
use Rattle.http_framing.specs.declared.fault.EdgeFault.TheVariants.{HeadTooLong, BadChunk, Cut, ReadFault, Memory}

-- what was taken when a chunk line was awaited
abbrev pub LineTaken : List ℕ → Option (List ℕ) → Result SizeLine EdgeFault → Type 0
LineTaken held left (Ok s) = (l : ChunkLine) × IsChunkLineAt (take 1024 held) s.len s.size l
LineTaken held left (Err BadChunk) = BadLine held
LineTaken held left (Err (Cut n)) = AwaitsLine held × (n ≡ length held) × IsAtEnd left
LineTaken held left (Err ReadFault) = AwaitsLine held
LineTaken held left (Err Memory) = ⊤
LineTaken held left (Err f) = ⊥

-- what was taken when the end of a chunk's data was awaited
abbrev pub DataTaken : ℕ → List ℕ → Option (List ℕ) → Result (Unit {0}) EdgeFault → Type 0
DataTaken n held left (Ok v) = closing (drop n held) ≡ There
DataTaken n held left (Err BadChunk) = closing (drop n held) ≡ Wrong
DataTaken n held left (Err (Cut k)) = (closing (drop n held) ≡ Awaited) × (k ≡ length held) × IsAtEnd left
DataTaken n held left (Err ReadFault) = closing (drop n held) ≡ Awaited
DataTaken n held left (Err Memory) = ⊤
DataTaken n held left (Err f) = ⊥

-- what was taken when trailers were awaited
abbrev pub TrailersTaken : List ℕ → Option (List ℕ) → Result ℕ EdgeFault → Type 0
TrailersTaken held left (Ok n) = trailers held ≡ Some n
TrailersTaken held left (Err HeadTooLong) = (trailers held ≡ None) × (10240 ≤ length held)
TrailersTaken held left (Err (Cut k)) = (trailers held ≡ None) × (length held < 10240) × (k ≡ length held) × IsAtEnd left
TrailersTaken held left (Err ReadFault) = (trailers held ≡ None) × (length held < 10240)
TrailersTaken held left (Err Memory) = ⊤
TrailersTaken held left (Err f) = ⊥

-- what reading a chunk line came to
abbrev pub LineRead : List ℕ → List ℕ → List ℕ → Result SizeLine EdgeFault → Type 0
LineRead bytes held left (Ok s) = HasLine bytes s.size (held ++ left) × (s.len + length (held ++ left) ≡ length bytes)
LineRead bytes held left (Err BadChunk) = BadLine bytes
LineRead bytes held left (Err (Cut n)) = AwaitsLine bytes × (n ≡ length bytes) × (left ≡ [])
LineRead bytes held left (Err ReadFault) = (taken : List ℕ) × (bytes ≡ taken ++ left) × AwaitsLine taken
LineRead bytes held left (Err Memory) = ⊤
LineRead bytes held left (Err f) = ⊥

-- what reading a chunk's data came to, behind these bytes of the body
abbrev pub DataRead : ℕ → List ℕ → List ℕ → List ℕ → List ℕ → List ℕ → Result (Unit {0}) EdgeFault → Type 0
DataRead n before after bytes held left (Ok v) = (piece : List ℕ) × (length piece ≡ n) × (after ≡ before ++ piece) × (bytes ≡ piece ++ 13 ∷ 10 ∷ (held ++ left))
DataRead n before after bytes held left (Err BadChunk) = closing (drop n bytes) ≡ Wrong
DataRead n before after bytes held left (Err (Cut k)) = (closing (drop n bytes) ≡ Awaited) × (k ≡ length bytes) × (left ≡ [])
DataRead n before after bytes held left (Err ReadFault) = (taken : List ℕ) × (bytes ≡ taken ++ left) × (closing (drop n taken) ≡ Awaited)
DataRead n before after bytes held left (Err Memory) = ⊤
DataRead n before after bytes held left (Err f) = ⊥

-- what reading trailers came to
abbrev pub TrailersRead : List ℕ → List ℕ → List ℕ → Result (Unit {0}) EdgeFault → Type 0
TrailersRead bytes held left (Ok v) = (n : ℕ) × (trailers bytes ≡ Some n) × (held ++ left ≡ drop n bytes)
TrailersRead bytes held left (Err HeadTooLong) = (trailers bytes ≡ None) × (10240 ≤ length bytes)
TrailersRead bytes held left (Err (Cut k)) = (trailers bytes ≡ None) × (length bytes < 10240) × (k ≡ length bytes) × (left ≡ [])
TrailersRead bytes held left (Err ReadFault) = (taken : List ℕ) × (bytes ≡ taken ++ left) × (trailers taken ≡ None) × (length taken < 10240)
TrailersRead bytes held left (Err Memory) = ⊤
TrailersRead bytes held left (Err f) = ⊥

-- what reading a chunk came to, behind these bytes of the body
abbrev pub ChunkRead : List ℕ → List ℕ → List ℕ → List ℕ → List ℕ → Result Step EdgeFault → Type 0
ChunkRead before after bytes held left (Ok (More n)) = (piece : List ℕ) × (after ≡ before ++ piece) × (length after ≤ 10485760) × Chunk bytes piece (held ++ left) × (n + length (held ++ left) ≡ length bytes)
ChunkRead before after bytes held left (Ok Last) = (after ≡ before) × LastChunk bytes (held ++ left)
ChunkRead before after bytes held left (Ok TooLarge) = PassesLimit (length before) bytes (held ++ left)
ChunkRead before after bytes held left (Err BadChunk) = WrongChunk (length before) bytes
ChunkRead before after bytes held left (Err HeadTooLong) = LongTrailers bytes
ChunkRead before after bytes held left (Err (Cut k)) = AwaitsChunk (length before) bytes × (k ≡ length bytes) × (left ≡ [])
ChunkRead before after bytes held left (Err ReadFault) = (taken : List ℕ) × (bytes ≡ taken ++ left) × AwaitsChunk (length before) taken
ChunkRead before after bytes held left (Err Memory) = ⊤
ChunkRead before after bytes held left (Err f) = ⊥

-- how much a chunk adds to the body, and how many bytes it had
abbrev pub Adds : ℕ → ℕ → Step → Type 0
Adds before after (More n) = (before < after) × (after ≤ 10485760) × (n + before ≤ 1026 + after)
Adds before after s = after ≡ before

-- whole chunks were read: their data, and how many bytes they had
abbrev pub SoFar : List ℕ → ℕ → List ℕ → List ℕ → List ℕ → Unit {0} → Type 0
SoFar body gone bytes held left u = (pieces : List (List ℕ)) × Chunks pieces bytes (held ++ left) × (body ≡ content pieces) × (gone + length (held ++ left) ≡ length bytes)
