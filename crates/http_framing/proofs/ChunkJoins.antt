-- A chunk line and what stands behind it are a chunk; chunks in a row are a body.
use Rattle.std.proofs.Common.{arith, ◌≡◌, ℕ, ◌+◌, ◌<◌, ◌≤◌, inl, inr, List, [], ◌∷◌, ◌++◌, length, refl, sym, ap, ◌∙◌, subst, append_assoc, append-nil, Result, Ok, Err}
use Rattle.std.proofs.lemmas.List.{length-append}
use Rattle.httparse.specs.Grammar.{print_chunk_line}
use Rattle.http_framing.specs.Chunks.{HasLine, Chunk, Chunks, content, AwaitsChunk}
use Rattle.http_framing.specs.ChunkReads.{LineRead, DataRead, TrailersRead, ChunkRead, SoFar}
use Rattle.http_framing.specs.Faults.{shifted}
use Rattle.http_framing.specs.Bodies.{IsChunked, Closes}
use Rattle.http_framing.specs.BodyReads.{BodyRead}
use Rattle.http_framing.specs.declared.chunk.SizeLine.{SizeLine}
use Rattle.http_framing.specs.declared.chunks.Step.TheVariants.{More, Last, TooLarge}
use Rattle.http_framing.specs.declared.body.Body.{Body}
use Rattle.http_framing.specs.declared.body.Body.TheVariants as known
use Rattle.http_framing.specs.declared.fault.EdgeFault.{EdgeFault}
use Rattle.http_framing.specs.declared.fault.EdgeFault.TheVariants.{BadHead, HeadTooLong, BadChunk, Cut, ReadFault, Memory}

-- the same line before other bytes
again : (bytes after other : List ℕ) (size : ℕ) (h : HasLine bytes size after) → HasLine (print_chunk_line h.line ++ other) size other
again bytes after other size h = record { line = h.line; reads = (h.reads.0, refl); within = h.within; size_is = h.size_is }

sized : (bytes after : List ℕ) (size size' : ℕ) → size ≡ size' → HasLine bytes size after → HasLine bytes size' after
sized bytes after size size' e h = let P : ℕ → Type 0 = λ z. HasLine bytes z after in subst P e h

-- so much is taken with the line, where this much is taken behind it
with_line : (bytes after taken left : List ℕ) (size : ℕ) (h : HasLine bytes size after) → after ≡ taken ++ left → bytes ≡ (print_chunk_line h.line ++ taken) ++ left
with_line bytes after taken left size h e = h.reads.1 ∙ ap (λ t. print_chunk_line h.line ++ t) e ∙ sym (append_assoc (print_chunk_line h.line) taken left)

pub line_fault : (f : EdgeFault) (before now all m l : List ℕ) → LineRead all m l (Err f) → ChunkRead before now all m l (Err f)
line_fault BadHead before now all m l h = h
line_fault HeadTooLong before now all m l h = absurd h
line_fault BadChunk before now all m l h = inl h
line_fault (Cut k) before now all m l h = (inl h.0, h.1, h.2)
line_fault ReadFault before now all m l (taken, e, a) = (taken, e, inl a)
line_fault Memory before now all m l h = tt

pub last_done : (s : SizeLine) (before all m l n k : List ℕ) → s.size ≡ 0 → LineRead all m l (Ok s) → TrailersRead (m ++ l) n k (Ok tt) → ChunkRead before before all n k (Ok Last)
last_done s before all m l n k e line (c, t, r) = (refl, (m ++ l, c, sized all (m ++ l) s.size 0 e line.0, t, r))

pub last_fault : (f : EdgeFault) (s : SizeLine) (before now all m l n k : List ℕ) → s.size ≡ 0 → LineRead all m l (Ok s) → TrailersRead (m ++ l) n k (Err f) → ChunkRead before now all n k (Err (shifted s.len f))
last_fault BadHead s before now all m l n k e line h = h
last_fault BadChunk s before now all m l n k e line h = absurd h
last_fault HeadTooLong s before now all m l n k e line h = (m ++ l, sized all (m ++ l) s.size 0 e line.0, h.0, h.1)
last_fault (Cut c) s before now all m l n k e line h = (inr (inr (m ++ l, sized all (m ++ l) s.size 0 e line.0, h.0, h.1)), omega (arith, line.1, h.2), h.3)
last_fault ReadFault s before now all m l n k e line (taken, g, none, short) =
    let h = sized all (m ++ l) s.size 0 e line.0 in
    (print_chunk_line h.line ++ taken, with_line all (m ++ l) taken k 0 h g, inr (inr (taken, again all (m ++ l) taken 0 h, none, short)))
last_fault Memory s before now all m l n k e line h = tt

pub large : (s : SizeLine) (before now all m l : List ℕ) → 10485760 < length before + s.size → LineRead all m l (Ok s) → ChunkRead before now all m l (Ok TooLarge)
large s before now all m l far line = (s.size, line.0, far)

pub data_more : (s : SizeLine) (c : ℕ) (before now all m l n k : List ℕ) → 0 < s.size → length before + s.size ≤ 10485760 → c ≡ s.len + s.size + 2 → LineRead all m l (Ok s) → DataRead s.size before now (m ++ l) n k (Ok tt) → ChunkRead before now all n k (Ok (More c))
data_more s c before now all m l n k some near count line (piece, size, added, e) = (
  piece,
  added,
  omega (arith, size, near, ap length added, length-append before piece),
  (omega (arith, some, size), m ++ l, sized all (m ++ l) s.size (length piece) (sym size) line.0, e),
  omega (arith, count, line.1, size, ap length e, length-append piece (13 ∷ 10 ∷ (n ++ k))),
)

pub data_fault : (f : EdgeFault) (s : SizeLine) (before now all m l n k : List ℕ) → 0 < s.size → length before + s.size ≤ 10485760 → LineRead all m l (Ok s) → DataRead s.size before now (m ++ l) n k (Err f) → ChunkRead before now all n k (Err (shifted s.len f))
data_fault BadHead s before now all m l n k some near line h = h
data_fault HeadTooLong s before now all m l n k some near line h = absurd h
data_fault BadChunk s before now all m l n k some near line h = inr (s.size, m ++ l, line.0, some, near, h)
data_fault (Cut c) s before now all m l n k some near line h = (inr (inl (s.size, m ++ l, line.0, some, near, h.0)), omega (arith, line.1, h.1), h.2)
data_fault ReadFault s before now all m l n k some near line (taken, g, h) =
    (print_chunk_line line.0.line ++ taken, with_line all (m ++ l) taken k s.size line.0 g, inr (inl (s.size, taken, again all (m ++ l) taken s.size line.0, some, near, h)))
data_fault Memory s before now all m l n k some near line h = tt

-- ---- chunks in a row

content_more : (ps : List (List ℕ)) (p : List ℕ) → content (ps ++ p ∷ []) ≡ content ps ++ p
content_more [] p = append-nil p
content_more (q ∷ ps) p = ap (λ l. q ++ l) (content_more ps p) ∙ sym (append_assoc q (content ps) p)

chunks_more : (ps : List (List ℕ)) (a b c p : List ℕ) → Chunks ps a b → Chunk b p c → Chunks (ps ++ p ∷ []) a c
chunks_more [] a b c p e h = let P : List ℕ → Type 0 = λ z. Chunk z p c in (c, subst P (sym e) h, refl)
chunks_more (q ∷ ps) a b c p (mid, one, rest) h = (mid, one, chunks_more ps mid b c p rest h)

-- the bytes of whole chunks, before whatever stands behind them
chunks_used : (ps : List (List ℕ)) (a b : List ℕ) → Chunks ps a b → (used : List ℕ) × (a ≡ used ++ b) × ((o : List ℕ) → Chunks ps (used ++ o) o)
chunks_used [] a b e = ([], e, λ o. refl)
chunks_used (q ∷ ps) a b (mid, (some, after, line, e), rest) =
    let more = chunks_used ps mid b rest in
    let front = print_chunk_line line.line ++ (q ++ 13 ∷ 10 ∷ []) in (
      front ++ more.0,
      line.reads.1 ∙ ap (λ l. print_chunk_line line.line ++ l) (e ∙ ap (λ l. q ++ 13 ∷ 10 ∷ l) more.1) ∙ spread (print_chunk_line line.line) q more.0 b,
      λ o. (more.0 ++ o, (some, q ++ 13 ∷ 10 ∷ (more.0 ++ o), (let P : List ℕ → Type 0 = λ z. HasLine z (length q) (q ++ 13 ∷ 10 ∷ (more.0 ++ o)) in subst P (spread (print_chunk_line line.line) q more.0 o) (again a after (q ++ 13 ∷ 10 ∷ (more.0 ++ o)) (length q) line)), refl), more.2 o),
    )
  where
    spread : (x q u o : List ℕ) → x ++ (q ++ 13 ∷ 10 ∷ (u ++ o)) ≡ ((x ++ (q ++ 13 ∷ 10 ∷ [])) ++ u) ++ o
    spread x q u o =
        ap (λ l. x ++ l) (sym (append_assoc q (13 ∷ 10 ∷ []) (u ++ o))) ∙ sym (append_assoc x (q ++ 13 ∷ 10 ∷ []) (u ++ o)) ∙ sym (append_assoc (x ++ (q ++ 13 ∷ 10 ∷ [])) u o)

pub far_more : (body now : List ℕ) (gone c : ℕ) (all m l n k : List ℕ) → SoFar body gone all m l tt → ChunkRead body now (m ++ l) n k (Ok (More c)) → SoFar now (gone + c) all n k tt
far_more body now gone c all m l n k (ps, chunks, is, count) (p, added, near, chunk, size) =
    (ps ++ p ∷ [], chunks_more ps all (m ++ l) (n ++ k) p chunks chunk, added ∙ ap (λ z. z ++ p) is ∙ sym (content_more ps p), omega (arith, count, size))

pub far_start : (all m l : List ℕ) → m ++ l ≡ all → SoFar [] 0 all m l tt
far_start all m l e = ([], sym e, refl, omega (arith, ap length e))

chunked_end : (body : List ℕ) (gone : ℕ) (all m l : List ℕ) (result : Result Body EdgeFault) (rest : List ℕ)
    → SoFar body gone all m l tt → length body ≤ 10485760 → Closes body (length all) (m ++ l) result rest → IsChunked all result rest
chunked_end body gone all m l result rest (ps, chunks, is, count) near closes =
    let P : List ℕ → Type 0 = λ b. Closes b (length all) (m ++ l) result rest in
    (ps, m ++ l, chunks, omega (arith, near, ap length is), subst P is closes)

-- the last chunk
pub body_last : (body now made : List ℕ) (gone : ℕ) (all m l n k : List ℕ) → made ≡ now → length body ≤ 10485760
    → SoFar body gone all m l tt → ChunkRead body now (m ++ l) n k (Ok Last) → BodyRead IsChunked all n k (Ok (known.Read made))
body_last body now made gone all m l n k e near far (same, last) =
    chunked_end body gone all m l (Ok (known.Read made)) (n ++ k) far near (e ∙ same, last)

-- a chunk that passes the limit
pub body_large : (body now : List ℕ) (gone : ℕ) (all m l n k : List ℕ) → length body ≤ 10485760
    → SoFar body gone all m l tt → ChunkRead body now (m ++ l) n k (Ok TooLarge) → BodyRead IsChunked all n k (Ok known.PastLimit)
body_large body now gone all m l n k near far passes = chunked_end body gone all m l (Ok known.PastLimit) (n ++ k) far near passes

-- a fault
pub body_fault : (f : EdgeFault) (body now : List ℕ) (gone : ℕ) (all m l n k : List ℕ) → length body ≤ 10485760
    → SoFar body gone all m l tt → ChunkRead body now (m ++ l) n k (Err f) → BodyRead IsChunked all n k (Err (shifted gone f))
body_fault BadHead body now gone all m l n k near far h = absurd h
body_fault HeadTooLong body now gone all m l n k near far h = chunked_end body gone all m l (Err HeadTooLong) [] far near h
body_fault BadChunk body now gone all m l n k near far h = chunked_end body gone all m l (Err BadChunk) [] far near h
body_fault (Cut c) body now gone all m l n k near far h = (chunked_end body gone all m l (Err (Cut (gone + c))) [] far near (h.0, omega (arith, h.1, far.3)), h.2)
body_fault ReadFault body now gone all m l n k near (ps, chunks, is, count) (taken, e, awaits) =
    let used = chunks_used ps all (m ++ l) chunks in
    let P : List ℕ → Type 0 = λ b. AwaitsChunk (length b) taken in (
      used.0 ++ taken,
      used.1 ∙ ap (λ z. used.0 ++ z) e ∙ sym (append_assoc used.0 taken k),
      (ps, taken, used.2 taken, omega (arith, near, ap length is), (subst P is awaits, refl)),
    )
body_fault Memory body now gone all m l n k near far h = tt
