-- A body in chunks (RFC 9112, section 7.1).
use Rattle.std.specs.Prelude.{◌≡◌, ℕ, ◌+◌, ◌<◌, ◌≤◌, ◌⊎◌, ◌&&◌, ◌==◌, if◌then◌else◌, List, [], ◌∷◌, ◌++◌, take, drop, length, Option, Some, None}
use Rattle.std.specs.List.{flat_map}
use Rattle.httparse.specs.Grammar.{ChunkLine, print_chunk_line, chunk_size, ReadsChunkLine, HasNoChunkLine, NeverHasChunkLine, MayBecomeChunkLine}
use Rattle.http_framing.specs.declared.chunk.Closing.{Closing}
use Rattle.http_framing.specs.declared.chunk.Closing.TheVariants.{There, Awaited, Wrong}
use Rattle.http_framing.specs.declared.trailers.Spot.{Spot}
use Rattle.http_framing.specs.declared.trailers.Spot.TheVariants.{Fresh, Returned, Inside}

-- a chunk line of at most 1,024 bytes stands at the front, and gives this size
pub record HasLine (bytes : List ℕ) (size : ℕ) (after : List ℕ) : Type 0 where
  pub line : ChunkLine
  pub reads : ReadsChunkLine bytes line after
  pub within : length (print_chunk_line line) ≤ 1024
  pub size_is : chunk_size line ≡ size

-- no chunk line can stand in the first 1,024 bytes, or 1,024 bytes stand without one
abbrev pub BadLine : List ℕ → Type 0
BadLine bytes = NeverHasChunkLine (take 1024 bytes) ⊎ (HasNoChunkLine (take 1024 bytes) × (1024 ≤ length bytes))

-- these are less than a chunk line, and may still become one
abbrev pub AwaitsLine : List ℕ → Type 0
AwaitsLine bytes = HasNoChunkLine (take 1024 bytes) × MayBecomeChunkLine (take 1024 bytes) × (length bytes < 1024)

-- what stands behind a chunk's data: CR LF, less than that, or something else
abbrev pub closing : List ℕ → Closing
closing [] = Awaited
closing (b ∷ []) = if b == 13 then Awaited else Wrong
closing (b ∷ c ∷ rest) = if b == 13 && c == 10 then There else Wrong

-- these are the bytes of trailers from a place in a line on, behind so many others: the length of them all with the empty line. A line ends in LF or in CR LF
abbrev pub trailers_from : ℕ → Spot → List ℕ → Option ℕ
trailers_from at spot [] = None
trailers_from at Fresh (b ∷ bs) =
    if b == 10 then Some (at + 1) else if b == 13 then trailers_from (at + 1) Returned bs else trailers_from (at + 1) Inside bs
trailers_from at Returned (b ∷ bs) = if b == 10 then Some (at + 1) else trailers_from (at + 1) Inside bs
trailers_from at Inside (b ∷ bs) = if b == 10 then trailers_from (at + 1) Fresh bs else trailers_from (at + 1) Inside bs

-- the length of the trailers up to an empty line, if they end within 10,240 bytes
abbrev pub trailers : List ℕ → Option ℕ
trailers bytes = trailers_from 0 Fresh (take 10240 bytes)

-- a chunk with this data, which is not the last
abbrev pub Chunk : List ℕ → List ℕ → List ℕ → Type 0
Chunk bytes piece rest = (0 < length piece) × (after : List ℕ) × HasLine bytes (length piece) after × (after ≡ piece ++ 13 ∷ 10 ∷ rest)

-- chunks with these data, one behind the other
abbrev pub Chunks : List (List ℕ) → List ℕ → List ℕ → Type 0
Chunks [] bytes rest = bytes ≡ rest
Chunks (piece ∷ more) bytes rest = (mid : List ℕ) × Chunk bytes piece mid × Chunks more mid rest

-- the data of chunks, in a row
abbrev pub content : List (List ℕ) → List ℕ
content pieces = flat_map (λ piece. piece) pieces

-- the last chunk, of size 0, and the trailers
abbrev pub LastChunk : List ℕ → List ℕ → Type 0
LastChunk bytes rest = (behind : List ℕ) × (n : ℕ) × HasLine bytes 0 behind × (trailers behind ≡ Some n) × (rest ≡ drop n behind)

-- a chunk line that passes the limit of a body, behind so many bytes of it, and what stands behind the line
abbrev pub PassesLimit : ℕ → List ℕ → List ℕ → Type 0
PassesLimit sum bytes rest = (size : ℕ) × HasLine bytes size rest × (10485760 < sum + size)

-- a chunk whose line keeps within the limit, and whose data is followed so
abbrev pub ChunkCloses : ℕ → List ℕ → Closing → Type 0
ChunkCloses sum bytes how = (size : ℕ) × (behind : List ℕ) × HasLine bytes size behind × (0 < size) × (sum + size ≤ 10485760) × (closing (drop size behind) ≡ how)

-- what stands is no chunk
abbrev pub WrongChunk : ℕ → List ℕ → Type 0
WrongChunk sum bytes = BadLine bytes ⊎ ChunkCloses sum bytes Wrong

-- the last chunk, whose trailers do not end in 10,240 bytes
abbrev pub LongTrailers : List ℕ → Type 0
LongTrailers bytes = (behind : List ℕ) × HasLine bytes 0 behind × (trailers behind ≡ None) × (10240 ≤ length behind)

-- the last chunk, whose trailers may still end
abbrev pub AwaitsTrailers : List ℕ → Type 0
AwaitsTrailers bytes = (behind : List ℕ) × HasLine bytes 0 behind × (trailers behind ≡ None) × (length behind < 10240)

-- less than a chunk, which may still become one
abbrev pub AwaitsChunk : ℕ → List ℕ → Type 0
AwaitsChunk sum bytes = AwaitsLine bytes ⊎ (ChunkCloses sum bytes Awaited ⊎ AwaitsTrailers bytes)
