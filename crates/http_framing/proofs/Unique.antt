-- A head is read in one way, and where one is read no fault stands.
use Rattle.std.proofs.Common.{arith, ◌≡◌, ◌≢◌, ℕ, ◌+◌, ◌-◌, ◌<◌, ◌≤◌, inl, inr, List, [], ◌∷◌, ◌++◌, length, take, drop, refl, sym, ap, ◌∙◌, subst, append-nil, Some, None}
use Rattle.std.proofs.lemmas.List.{take_all, length-append}
use Rattle.httparse.specs.Grammar.{RequestHead, print_request, ReadsRequest, ResponseHead, print_response, ReadsResponse, NeverHasResponse, MayBecomeResponse}
use Rattle.httparse.specs.Grammar.{print_chunk_line, chunk_size, ReadsChunkLine, NeverHasChunkLine, MayBecomeChunkLine}
use Rattle.httparse.proofs.GrammarLemmas.{request_unique, response_unique}
use Rattle.httparse.proofs.ChunkLemmas.{chunk_line_unique}
use Rattle.http_framing.specs.Chunks.{HasLine, BadLine, AwaitsLine, closing, trailers, Chunk, Chunks, content, LastChunk, PassesLimit, ChunkCloses, WrongChunk, LongTrailers, AwaitsChunk}
use Rattle.http_framing.specs.declared.chunk.Closing.{Closing}
use Rattle.http_framing.specs.declared.chunk.Closing.TheVariants.{There, Awaited, Wrong}
use Rattle.http_framing.specs.Heads.{HasHead, LacksHead}
use Rattle.http_framing.specs.ReplyHeads.{HasReplyHead, LacksReplyHead}
use Rattle.http_framing.specs.declared.fault.EdgeFault.{EdgeFault}
use Rattle.http_framing.specs.declared.fault.EdgeFault.TheVariants.{BadHead, HeadTooLong, BadChunk, Cut, ReadFault, Memory}
use Rattle.http_framing.proofs.Fronts.{take_both}
use Rattle.http_framing.proofs.ChunkGrows.{none_some}

pub head_unique : (bytes : List ℕ) (h k : RequestHead) (a b : List ℕ) → HasHead bytes h a → HasHead bytes k b → (h ≡ k) × (a ≡ b)
head_unique bytes h k a b x y = request_unique bytes h k a b x.reads y.reads

-- a head of at most 10,240 bytes is read of the first 10,240
in_front : (bytes : List ℕ) (h : RequestHead) (after : List ℕ) → HasHead bytes h after → ReadsRequest (take 10240 bytes) h (take (10240 - length (print_request h)) after)
in_front bytes h after x =
    (x.reads.0, ap (λ l. take 10240 l) x.reads.1 ∙ take_both 10240 (print_request h) after ∙ ap (λ l. l ++ take (10240 - length (print_request h)) after) (take_all 10240 (print_request h) x.within))

pub lacks_not : (f : EdgeFault) (bytes : List ℕ) (h : RequestHead) (after : List ℕ) → LacksHead bytes f → HasHead bytes h after → ⊥
lacks_not BadHead bytes h after lacks x =
    let r = in_front bytes h after x in
    lacks.0 [] h (take (10240 - length (print_request h)) after) (r.0, append-nil (take 10240 bytes) ∙ r.1)
lacks_not HeadTooLong bytes h after lacks x = lacks.0.0 h _ (in_front bytes h after x)
lacks_not (Cut n) bytes h after lacks x = lacks.0.0 h _ (in_front bytes h after x)
lacks_not BadChunk bytes h after lacks x = lacks
lacks_not ReadFault bytes h after lacks x = lacks
lacks_not Memory bytes h after lacks x = lacks

-- where no head stands, the fault is one
pub lacks_unique : (f g : EdgeFault) (bytes : List ℕ) → LacksHead bytes f → LacksHead bytes g → f ≡ g
lacks_unique BadChunk g bytes x y = absurd x
lacks_unique ReadFault g bytes x y = absurd x
lacks_unique Memory g bytes x y = absurd x
lacks_unique BadHead BadHead bytes x y = refl
lacks_unique BadHead HeadTooLong bytes x y = absurd (y.0.1 x)
lacks_unique BadHead (Cut n) bytes x y = absurd (y.0.1 x)
lacks_unique BadHead BadChunk bytes x y = absurd y
lacks_unique BadHead ReadFault bytes x y = absurd y
lacks_unique BadHead Memory bytes x y = absurd y
lacks_unique HeadTooLong BadHead bytes x y = absurd (x.0.1 y)
lacks_unique HeadTooLong HeadTooLong bytes x y = refl
lacks_unique HeadTooLong (Cut n) bytes x y = absurd (omega (arith, x.1, y.1))
lacks_unique HeadTooLong BadChunk bytes x y = absurd y
lacks_unique HeadTooLong ReadFault bytes x y = absurd y
lacks_unique HeadTooLong Memory bytes x y = absurd y
lacks_unique (Cut n) BadHead bytes x y = absurd (x.0.1 y)
lacks_unique (Cut n) HeadTooLong bytes x y = absurd (omega (arith, x.1, y.1))
lacks_unique (Cut n) (Cut m) bytes x y = ap Cut (x.2 ∙ sym y.2)
lacks_unique (Cut n) BadChunk bytes x y = absurd y
lacks_unique (Cut n) ReadFault bytes x y = absurd y
lacks_unique (Cut n) Memory bytes x y = absurd y

-- ---- the same of replies

pub reply_head_unique : (room rook : ℕ) (bytes : List ℕ) (h k : ResponseHead) (a b : List ℕ) → HasReplyHead room bytes h a → HasReplyHead rook bytes k b → (h ≡ k) × (a ≡ b)
reply_head_unique room rook bytes h k a b x y = response_unique bytes h k a b x.reads y.reads

reply_in_front : (room : ℕ) (bytes : List ℕ) (h : ResponseHead) (after : List ℕ) → HasReplyHead room bytes h after → ReadsResponse (take room bytes) h (take (room - length (print_response h)) after)
reply_in_front room bytes h after x =
    (x.reads.0, ap (λ l. take room l) x.reads.1 ∙ take_both room (print_response h) after ∙ ap (λ l. l ++ take (room - length (print_response h)) after) (take_all room (print_response h) x.within))

pub lacks_reply_not : (f : EdgeFault) (room : ℕ) (bytes : List ℕ) (h : ResponseHead) (after : List ℕ) → LacksReplyHead room bytes f → HasReplyHead room bytes h after → ⊥
lacks_reply_not BadHead room bytes h after lacks x =
    let r = reply_in_front room bytes h after x in
    lacks [] h (take (room - length (print_response h)) after) (r.0, append-nil (take room bytes) ∙ r.1)
lacks_reply_not HeadTooLong room bytes h after lacks x = lacks.0.0 h _ (reply_in_front room bytes h after x)
lacks_reply_not (Cut n) room bytes h after lacks x = lacks.0.0 h _ (reply_in_front room bytes h after x)
lacks_reply_not BadChunk room bytes h after lacks x = lacks
lacks_reply_not ReadFault room bytes h after lacks x = lacks
lacks_reply_not Memory room bytes h after lacks x = lacks

never_may_reply : (bytes : List ℕ) → NeverHasResponse bytes → MayBecomeResponse bytes → ⊥
never_may_reply bytes never (more, h, reads) = never more h [] reads

pub lacks_reply_unique : (f g : EdgeFault) (room : ℕ) (bytes : List ℕ) → LacksReplyHead room bytes f → LacksReplyHead room bytes g → f ≡ g
lacks_reply_unique BadHead BadHead room bytes x y = refl
lacks_reply_unique BadHead HeadTooLong room bytes x y = absurd (never_may_reply (take room bytes) x y.0.1)
lacks_reply_unique BadHead (Cut m) room bytes x y = absurd (never_may_reply (take room bytes) x y.0.1)
lacks_reply_unique BadHead BadChunk room bytes x y = absurd y
lacks_reply_unique BadHead ReadFault room bytes x y = absurd y
lacks_reply_unique BadHead Memory room bytes x y = absurd y
lacks_reply_unique HeadTooLong BadHead room bytes x y = absurd (never_may_reply (take room bytes) y x.0.1)
lacks_reply_unique HeadTooLong HeadTooLong room bytes x y = refl
lacks_reply_unique HeadTooLong (Cut m) room bytes x y = absurd (omega (arith, x.1, y.1))
lacks_reply_unique HeadTooLong BadChunk room bytes x y = absurd y
lacks_reply_unique HeadTooLong ReadFault room bytes x y = absurd y
lacks_reply_unique HeadTooLong Memory room bytes x y = absurd y
lacks_reply_unique (Cut n) BadHead room bytes x y = absurd (never_may_reply (take room bytes) y x.0.1)
lacks_reply_unique (Cut n) HeadTooLong room bytes x y = absurd (omega (arith, x.1, y.1))
lacks_reply_unique (Cut n) (Cut m) room bytes x y = ap Cut (x.2 ∙ sym y.2)
lacks_reply_unique (Cut n) BadChunk room bytes x y = absurd y
lacks_reply_unique (Cut n) ReadFault room bytes x y = absurd y
lacks_reply_unique (Cut n) Memory room bytes x y = absurd y
lacks_reply_unique BadChunk g room bytes x y = absurd x
lacks_reply_unique ReadFault g room bytes x y = absurd x
lacks_reply_unique Memory g room bytes x y = absurd x

-- ---- chunk lines

line_in_front : (bytes after : List ℕ) (size : ℕ) (x : HasLine bytes size after) → ReadsChunkLine (take 1024 bytes) x.line (take (1024 - length (print_chunk_line x.line)) after)
line_in_front bytes after size x =
    (x.reads.0, ap (λ l. take 1024 l) x.reads.1 ∙ take_both 1024 (print_chunk_line x.line) after ∙ ap (λ l. l ++ take (1024 - length (print_chunk_line x.line)) after) (take_all 1024 (print_chunk_line x.line) x.within))

pub line_unique : (bytes a b : List ℕ) (s t : ℕ) → HasLine bytes s a → HasLine bytes t b → (s ≡ t) × (a ≡ b)
line_unique bytes a b s t x y =
    let same = chunk_line_unique bytes x.line y.line a b x.reads y.reads in
    (sym x.size_is ∙ ap chunk_size same.0 ∙ y.size_is, same.1)

pub bad_line_not : (bytes after : List ℕ) (size : ℕ) → BadLine bytes → HasLine bytes size after → ⊥
bad_line_not bytes after size (inl never) x =
    let r = line_in_front bytes after size x in
    never [] x.line _ (r.0, append-nil (take 1024 bytes) ∙ r.1)
bad_line_not bytes after size (inr (none, far)) x = none x.line _ (line_in_front bytes after size x)

pub awaits_line_not : (bytes after : List ℕ) (size : ℕ) → AwaitsLine bytes → HasLine bytes size after → ⊥
awaits_line_not bytes after size a x = a.0 x.line _ (line_in_front bytes after size x)

never_may : (bytes : List ℕ) → NeverHasChunkLine bytes → MayBecomeChunkLine bytes → ⊥
never_may bytes never (more, line, reads) = never more line [] reads

pub bad_awaits_line : (bytes : List ℕ) → BadLine bytes → AwaitsLine bytes → ⊥
bad_awaits_line bytes (inl never) a = never_may (take 1024 bytes) never a.1
bad_awaits_line bytes (inr (none, far)) a = absurd (omega (arith, far, a.2))

-- ---- what stands at a chunk, of which one thing stands

-- a chunk's data is followed by a line end
chunk_closes : (piece rest : List ℕ) → closing (drop (length piece) (piece ++ 13 ∷ 10 ∷ rest)) ≡ There
chunk_closes [] rest = refl
chunk_closes (b ∷ piece) rest = chunk_closes piece rest

same_closing : (bytes a b : List ℕ) (s t : ℕ) → HasLine bytes s a → HasLine bytes t b → closing (drop s a) ≡ closing (drop t b)
same_closing bytes a b s t x y = let same = line_unique bytes a b s t x y in ap (λ n. closing (drop n a)) same.0 ∙ ap (λ l. closing (drop t l)) same.1

chunk_not : (bytes piece rest : List ℕ) (sum : ℕ) (how : Closing) → how ≢ There → Chunk bytes piece rest → ChunkCloses sum bytes how → ⊥
chunk_not bytes piece rest sum how other (some, after, x, e) (size, behind, y, far, near, c) =
    other (sym c ∙ same_closing bytes behind after size (length piece) y x ∙ ap (λ l. closing (drop (length piece) l)) e ∙ chunk_closes piece rest)

zero_not : (bytes a b : List ℕ) (s : ℕ) → 0 < s → HasLine bytes s a → HasLine bytes 0 b → ⊥
zero_not bytes a b s some x y = absurd (omega (arith, some, (line_unique bytes a b s 0 x y).0))

-- what stands behind whole chunks
pub data Stand : Type 0 where
  last large wrong long awaits : Stand

abbrev pub Stands : Stand → ℕ → List ℕ → Type 0
Stands last sum at = (rest : List ℕ) × LastChunk at rest
Stands large sum at = (rest : List ℕ) × PassesLimit sum at rest
Stands wrong sum at = WrongChunk sum at
Stands long sum at = LongTrailers at
Stands awaits sum at = AwaitsChunk sum at

chunk_stands : (t : Stand) (sum : ℕ) (at piece rest : List ℕ) → sum + length piece ≤ 10485760 → Chunk at piece rest → Stands t sum at → ⊥
chunk_stands last sum at piece rest near (some, after, x, e) (r, (b, n, y, z, k)) = zero_not at after b (length piece) some x y
chunk_stands large sum at piece rest near (some, after, x, e) (b, (s, y, far)) = absurd (omega (arith, near, far, (line_unique at after b (length piece) s x y).0))
chunk_stands wrong sum at piece rest near c (inl bad) = bad_line_not at c.1 (length piece) bad c.2
chunk_stands wrong sum at piece rest near c (inr w) = chunk_not at piece rest sum Wrong (λ z. cc) c w
chunk_stands long sum at piece rest near (some, after, x, e) (b, y, z, k) = zero_not at after b (length piece) some x y
chunk_stands awaits sum at piece rest near c (inl a) = awaits_line_not at c.1 (length piece) a c.2
chunk_stands awaits sum at piece rest near c (inr (inl w)) = chunk_not at piece rest sum Awaited (λ z. cc) c w
chunk_stands awaits sum at piece rest near (some, after, x, e) (inr (inr (b, y, z, k))) = zero_not at after b (length piece) some x y

-- the trailers are one thing
trailers_not : (at a b : List ℕ) (n : ℕ) → HasLine at 0 a → HasLine at 0 b → trailers a ≡ Some n → trailers b ≡ None → ⊥
trailers_not at a b n x y e f = none_some (trailers a) n (ap trailers (line_unique at a b 0 0 x y).1 ∙ f) e

closes_not : (sum : ℕ) (at : List ℕ) (b : List ℕ) (how : Closing) → ChunkCloses sum at how → HasLine at 0 b → ⊥
closes_not sum at b how (s, c, x, some, near, e) y = zero_not at c b s some x y

closes_large : (sum : ℕ) (at b : List ℕ) (how : Closing) → ChunkCloses sum at how → PassesLimit sum at b → ⊥
closes_large sum at b how (s, c, x, some, near, e) (t, y, far) = absurd (omega (arith, near, far, (line_unique at c b s t x y).0))

closes_both : (sum : ℕ) (at : List ℕ) (how so : Closing) → ChunkCloses sum at how → ChunkCloses sum at so → how ≡ so
closes_both sum at how so (s, c, x, some, near, e) (t, b, y, some', near', f) = sym e ∙ same_closing at c b s t x y ∙ f

large_zero : (sum : ℕ) (at b c : List ℕ) → sum ≤ 10485760 → PassesLimit sum at c → HasLine at 0 b → ⊥
large_zero sum at b c small (s, x, far) y = absurd (omega (arith, small, far, (line_unique at c b s 0 x y).0))

wrong_awaited : Wrong ≡ Awaited → ⊥
wrong_awaited e = cc

last_large : (sum : ℕ) (at : List ℕ) → sum ≤ 10485760 → Stands last sum at → Stands large sum at → ⊥
last_large sum at small (r, (b, n, x, z, k)) (c, y) = large_zero sum at b c small y x

last_wrong : (sum : ℕ) (at : List ℕ) → sum ≤ 10485760 → Stands last sum at → Stands wrong sum at → ⊥
last_wrong sum at small (r, (b, n, x, z, k)) (inl bad) = bad_line_not at b 0 bad x
last_wrong sum at small (r, (b, n, x, z, k)) (inr w) = closes_not sum at b Wrong w x

last_long : (sum : ℕ) (at : List ℕ) → sum ≤ 10485760 → Stands last sum at → Stands long sum at → ⊥
last_long sum at small (r, (b, n, x, z, k)) (c, y, none, far) = trailers_not at b c n x y z none

last_awaits : (sum : ℕ) (at : List ℕ) → sum ≤ 10485760 → Stands last sum at → Stands awaits sum at → ⊥
last_awaits sum at small (r, (b, n, x, z, k)) (inl a) = awaits_line_not at b 0 a x
last_awaits sum at small (r, (b, n, x, z, k)) (inr (inl w)) = closes_not sum at b Awaited w x
last_awaits sum at small (r, (b, n, x, z, k)) (inr (inr (c, y, none, far))) = trailers_not at b c n x y z none

large_wrong : (sum : ℕ) (at : List ℕ) → sum ≤ 10485760 → Stands large sum at → Stands wrong sum at → ⊥
large_wrong sum at small (d, x) (inl bad) = bad_line_not at d x.0 bad x.1
large_wrong sum at small (d, x) (inr w) = closes_large sum at d Wrong w x

large_long : (sum : ℕ) (at : List ℕ) → sum ≤ 10485760 → Stands large sum at → Stands long sum at → ⊥
large_long sum at small (d, x) (c, y, z, k) = large_zero sum at c d small x y

large_awaits : (sum : ℕ) (at : List ℕ) → sum ≤ 10485760 → Stands large sum at → Stands awaits sum at → ⊥
large_awaits sum at small (d, x) (inl a) = awaits_line_not at d x.0 a x.1
large_awaits sum at small (d, x) (inr (inl w)) = closes_large sum at d Awaited w x
large_awaits sum at small (d, x) (inr (inr (c, y, z, k))) = large_zero sum at c d small x y

wrong_long : (sum : ℕ) (at : List ℕ) → sum ≤ 10485760 → Stands wrong sum at → Stands long sum at → ⊥
wrong_long sum at small (inl bad) (c, y, z, k) = bad_line_not at c 0 bad y
wrong_long sum at small (inr w) (c, y, z, k) = closes_not sum at c Wrong w y

wrong_awaits : (sum : ℕ) (at : List ℕ) → sum ≤ 10485760 → Stands wrong sum at → Stands awaits sum at → ⊥
wrong_awaits sum at small (inl bad) (inl a) = bad_awaits_line at bad a
wrong_awaits sum at small (inl bad) (inr (inl w)) = bad_line_not at w.1 w.0 bad w.2
wrong_awaits sum at small (inl bad) (inr (inr (c, y, z, k))) = bad_line_not at c 0 bad y
wrong_awaits sum at small (inr w) (inl a) = awaits_line_not at w.1 w.0 a w.2
wrong_awaits sum at small (inr w) (inr (inl v)) = wrong_awaited (closes_both sum at Wrong Awaited w v)
wrong_awaits sum at small (inr w) (inr (inr (c, y, z, k))) = closes_not sum at c Wrong w y

long_awaits : (sum : ℕ) (at : List ℕ) → sum ≤ 10485760 → Stands long sum at → Stands awaits sum at → ⊥
long_awaits sum at small (c, y, z, k) (inl a) = awaits_line_not at c 0 a y
long_awaits sum at small (c, y, z, k) (inr (inl w)) = closes_not sum at c Awaited w y
long_awaits sum at small (c, y, none, far) (inr (inr (b, x, none', short))) = omega (arith, far, short, ap length (line_unique at c b 0 0 y x).1)

-- two things that stand are one
clash : (t u : Stand) (sum : ℕ) (at : List ℕ) → sum ≤ 10485760 → Stands t sum at → Stands u sum at → t ≡ u
clash last last sum at small x y = refl
clash last large sum at small x y = absurd (last_large sum at small x y)
clash last wrong sum at small x y = absurd (last_wrong sum at small x y)
clash last long sum at small x y = absurd (last_long sum at small x y)
clash last awaits sum at small x y = absurd (last_awaits sum at small x y)
clash large last sum at small x y = absurd (last_large sum at small y x)
clash large large sum at small x y = refl
clash large wrong sum at small x y = absurd (large_wrong sum at small x y)
clash large long sum at small x y = absurd (large_long sum at small x y)
clash large awaits sum at small x y = absurd (large_awaits sum at small x y)
clash wrong last sum at small x y = absurd (last_wrong sum at small y x)
clash wrong large sum at small x y = absurd (large_wrong sum at small y x)
clash wrong wrong sum at small x y = refl
clash wrong long sum at small x y = absurd (wrong_long sum at small x y)
clash wrong awaits sum at small x y = absurd (wrong_awaits sum at small x y)
clash long last sum at small x y = absurd (last_long sum at small y x)
clash long large sum at small x y = absurd (large_long sum at small y x)
clash long wrong sum at small x y = absurd (wrong_long sum at small y x)
clash long long sum at small x y = refl
clash long awaits sum at small x y = absurd (long_awaits sum at small x y)
clash awaits last sum at small x y = absurd (last_awaits sum at small y x)
clash awaits large sum at small x y = absurd (large_awaits sum at small y x)
clash awaits wrong sum at small x y = absurd (wrong_awaits sum at small y x)
clash awaits long sum at small x y = absurd (long_awaits sum at small y x)
clash awaits awaits sum at small x y = refl

-- ---- the pieces are one list

pub same_front : (p q x y : List ℕ) → length p ≡ length q → p ++ x ≡ q ++ y → (p ≡ q) × (x ≡ y)
same_front [] [] x y n e = (refl, e)
same_front [] (c ∷ q) x y n e = absurd (omega (arith, n))
same_front (b ∷ p) [] x y n e = absurd (omega (arith, n))
same_front (b ∷ p) (c ∷ q) x y n e =
    let rest = same_front p q x y (omega (arith, n)) (ap (drop 1) e) in
    (ap (λ l. l ++ p) (ap (take 1) e) ∙ ap (λ l. c ∷ l) rest.0, rest.1)

chunk_unique : (bytes p q r s : List ℕ) → Chunk bytes p r → Chunk bytes q s → (p ≡ q) × (r ≡ s)
chunk_unique bytes p q r s (some, a, x, e) (some', b, y, f) =
    let line = line_unique bytes a b (length p) (length q) x y in
    let both = same_front p q (13 ∷ 10 ∷ r) (13 ∷ 10 ∷ s) line.0 (sym e ∙ line.1 ∙ f) in
    (both.0, ap (drop 2) both.1)

-- whole chunks and what stands behind them are found in one way
pub chunks_unique : (t u : Stand) (ps qs : List (List ℕ)) (sum : ℕ) (a x y : List ℕ) → sum + length (content ps) ≤ 10485760 → sum + length (content qs) ≤ 10485760
    → Chunks ps a x → Chunks qs a y → Stands t (sum + length (content ps)) x → Stands u (sum + length (content qs)) y → (ps ≡ qs) × (x ≡ y) × (t ≡ u)
chunks_unique t u [] [] sum a x y n m c d s v =
    let S : List ℕ → Type 0 = λ z. Stands t (sum + 0) z in
    let U : List ℕ → Type 0 = λ z. Stands u (sum + 0) z in
    (refl, sym c ∙ d, clash t u (sum + 0) a n (subst S (sym c) s) (subst U (sym d) v))
chunks_unique t u [] (q ∷ qs) sum a x y n m c (mid, d, e) s v =
    let S : List ℕ → Type 0 = λ z. Stands t (sum + 0) z in
    absurd (chunk_stands t (sum + 0) a q mid (omega (arith, m, length-append q (content qs))) d (subst S (sym c) s))
chunks_unique t u (p ∷ ps) [] sum a x y n m (mid, d, e) c s v =
    let U : List ℕ → Type 0 = λ z. Stands u (sum + 0) z in
    absurd (chunk_stands u (sum + 0) a p mid (omega (arith, n, length-append p (content ps))) d (subst U (sym c) v))
chunks_unique t u (p ∷ ps) (q ∷ qs) sum a x y n m (mid, c, cs) (mid', d, ds) s v =
    let one = chunk_unique a p q mid mid' c d in
    let S : ℕ → Type 0 = λ z. Stands t z x in
    let U : ℕ → Type 0 = λ z. Stands u z y in
    let C : List ℕ → Type 0 = λ z. Chunks ps z x in
    let left : sum + length (p ++ content ps) ≡ sum + length q + length (content ps) = omega (arith, length-append p (content ps), ap length one.0) in
    let right : sum + length (q ++ content qs) ≡ sum + length q + length (content qs) = omega (arith, length-append q (content qs)) in
    let rest = chunks_unique t u ps qs (sum + length q) mid' x y (omega (arith, n, left)) (omega (arith, m, right)) (subst C one.1 cs) ds (subst S left s) (subst U right v) in
    (ap (λ z. z ∷ ps) one.0 ∙ ap (λ z. q ∷ z) rest.0, rest.1, rest.2)
