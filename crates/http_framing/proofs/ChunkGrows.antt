-- What stands at the front of a chunked body stays there, whatever comes behind it.
use Rattle.std.proofs.Common.{arith, ◌≡◌, ◌≢◌, ℕ, zero, suc, ◌+◌, ◌-◌, ◌≤◌, ◌⊎◌, inl, inr, Bool, true, false, ◌&&◌, ◌==◌, cond, List, [], ◌∷◌, ◌++◌, length, take, drop, take-append-drop, refl, sym, ap, ◌∙◌, subst, append_assoc, Option, Some, None, Ok, Err}
use Rattle.std.proofs.lemmas.List.{take-append-le, drop-append-le, length-take, length-drop, length-append, drop-drop}
use Rattle.std.proofs.lemmas.Bool.Decides.{nat_tests}
use Rattle.httparse.specs.Grammar.{ChunkLine, print_chunk_line, HasNoChunkLine, NeverHasChunkLine}
use Rattle.httparse.specs.Spans.{IsChunkLineAt}
use Rattle.http_framing.specs.Chunks.{HasLine, BadLine, closing, trailers, trailers_from}
use Rattle.http_framing.specs.ChunkReads.{LineTaken, LineRead, DataTaken, DataRead, TrailersTaken, TrailersRead}
use Rattle.http_framing.specs.Stream.{SameBytes, Takes, Over}
use Rattle.http_framing.specs.declared.chunk.SizeLine.{SizeLine}
use Rattle.http_framing.specs.declared.chunk.Closing.{Closing}
use Rattle.http_framing.specs.declared.chunk.Closing.TheVariants.{There, Awaited, Wrong}
use Rattle.http_framing.specs.declared.trailers.Spot.{Spot}
use Rattle.http_framing.specs.declared.trailers.Spot.TheVariants.{Fresh, Returned, Inside}
use Rattle.http_framing.specs.declared.fault.EdgeFault.{EdgeFault}
use Rattle.http_framing.specs.declared.fault.EdgeFault.TheVariants.{BadHead, HeadTooLong, BadChunk, Cut, ReadFault, Memory}
use Rattle.http_framing.proofs.Fronts.{take_both}
use Rattle.http_framing.proofs.Overs.{over, over_end, over_any}

pair : (b c : ℕ) → (b == 13 && c == 10) ≡ true → (b ≡ 13) × (c ≡ 10)
pair b c t = grind (arith, nat_tests)

never_line : (a b : List ℕ) → NeverHasChunkLine a → NeverHasChunkLine (a ++ b)
never_line a b n more l rest reads = n (b ++ more) l rest (reads.0, sym (append_assoc a b more) ∙ reads.1)

bad_line_grows : (held ys : List ℕ) → BadLine held → BadLine (held ++ ys)
bad_line_grows held ys (inl never) =
    let P : List ℕ → Type 0 = NeverHasChunkLine in
    inl (subst P (sym (take_both 1024 held ys)) (never_line (take 1024 held) (take (1024 - length held) ys) never))
bad_line_grows held ys (inr (none, far)) =
    let P : List ℕ → Type 0 = HasNoChunkLine in
    inr (subst P (sym (take-append-le 1024 held ys far)) none, omega (arith, far, length-append held ys))

line_grows : (held ys : List ℕ) (len size : ℕ) (l : ChunkLine) → IsChunkLineAt (take 1024 held) len size l → HasLine (held ++ ys) size (drop len held ++ ys)
line_grows held ys len size l at =
    let front = take 1024 held in
    let whole : front ++ drop 1024 held ≡ held = take-append-drop 1024 held in
    let short : len ≤ length front = omega (arith, ap length at.reads.1, length-append (print_chunk_line l) (drop len front), at.len_is) in
    let rest : drop len front ++ drop 1024 held ≡ drop len held = sym (drop-append-le len front (drop 1024 held) short) ∙ ap (drop len) whole in
    record {
      line = l;
      reads = (
        at.reads.0,
        ap (λ t. t ++ ys) (sym whole ∙ ap (λ t. t ++ drop 1024 held) at.reads.1 ∙ append_assoc (print_chunk_line l) (drop len front) (drop 1024 held) ∙ ap (λ t. print_chunk_line l ++ t) rest)
            ∙ append_assoc (print_chunk_line l) (drop len held) ys,
      );
      within = omega (arith, short, at.len_is, length-take 1024 held);
      size_is = sym at.size_is;
    }

pub line_short : (held : List ℕ) (len size : ℕ) (l : ChunkLine) → IsChunkLineAt (take 1024 held) len size l → (len ≤ length held) × (len ≤ 1024)
line_short held len size l at =
    let front = take 1024 held in
    let short : len ≤ length front = omega (arith, ap length at.reads.1, length-append (print_chunk_line l) (drop len front), at.len_is) in
    (omega (arith, short, length-take 1024 held), omega (arith, short, length-take 1024 held))

pub line_done : (old : List ℕ) (x : Option (List ℕ)) (held new : List ℕ) (y : Option (List ℕ)) (s : SizeLine) (l : ChunkLine)
    → IsChunkLineAt (take 1024 held) s.len s.size l → new ≡ drop s.len held → SameBytes old x held y → Over LineRead old x new y (Ok s)
line_done old x held new y s l at e same =
    over LineRead old x held new y (Ok s) same (λ ys.
    let P : List ℕ → Type 0 = λ t. HasLine (held ++ ys) s.size (t ++ ys) in (
      subst P (sym e) (line_grows held ys s.len s.size l at),
      omega (arith, (line_short held s.len s.size l at).0, ap length e, length-drop s.len held, length-append new ys, length-append held ys),
    ))

pub line_stopped : (old : List ℕ) (x : Option (List ℕ)) (held : List ℕ) (y : Option (List ℕ)) (f : EdgeFault)
    → LineTaken held y (Err f) → Takes x y → (f ≢ Memory → SameBytes old x held y) → Over LineRead old x held y (Err f)
line_stopped old x held y BadHead taken told same = absurd taken
line_stopped old x held y HeadTooLong taken told same = absurd taken
line_stopped old x held y BadChunk taken told same = over LineRead old x held held y (Err BadChunk) (same (λ e. cc)) (λ ys. bad_line_grows held ys taken)
line_stopped old x held y (Cut n) taken told same = over_end LineRead old x held held y (Err (Cut n)) (same (λ e. cc)) taken.2 (taken.0, taken.1, refl)
line_stopped old x held y ReadFault taken told same = over LineRead old x held held y (Err ReadFault) (same (λ e. cc)) (λ ys. (held, refl, taken))
line_stopped old x held y Memory taken told same = over_any LineRead old x held y (Err Memory) told (λ all ys. tt)

-- ---- a chunk's data

-- what is seen behind the data is seen of more
closing_grows : (bs ys : List ℕ) (how : Closing) → closing bs ≡ how → how ≢ Awaited → closing (bs ++ ys) ≡ how
closing_grows [] ys how e other = absurd (other (sym e))
closing_grows (b ∷ []) [] how e other = e
closing_grows (b ∷ []) (y ∷ ys) how e other = (elim (b == 13) as (λ t. (cond t Awaited Wrong ≡ how) → cond (t && y == 10) There Wrong ≡ how) [
  | true ↦ λ g. absurd (other (sym g))
  | false ↦ λ g. g
]) e
closing_grows (b ∷ c ∷ bs) ys how e other = e

-- something stands behind the data
closing_within : (n : ℕ) (bs : List ℕ) (how : Closing) → closing (drop n bs) ≡ how → how ≢ Awaited → n ≤ length bs
closing_within zero bs how e other = omega arith
closing_within (suc n) [] how e other = absurd (other (sym e))
closing_within (suc n) (b ∷ bs) how e other = omega (arith, closing_within n bs how e other)

data_grows : (n : ℕ) (held ys : List ℕ) (how : Closing) → closing (drop n held) ≡ how → how ≢ Awaited → closing (drop n (held ++ ys)) ≡ how
data_grows n held ys how e other =
    ap closing (drop-append-le n held ys (closing_within n held how e other)) ∙ closing_grows (drop n held) ys how e other

-- a line end behind the data
closing_there : (bs : List ℕ) → closing bs ≡ There → bs ≡ 13 ∷ 10 ∷ drop 2 bs
closing_there [] e = absurd (cc)
closing_there (b ∷ []) e = (elim (b == 13) as (λ t. (cond t Awaited Wrong ≡ There) → b ∷ [] ≡ 13 ∷ 10 ∷ []) [
  | true ↦ λ g. absurd (cc)
  | false ↦ λ g. absurd (cc)
]) e
closing_there (b ∷ c ∷ rest) e = (elim (b == 13 && c == 10) as (λ t. (b == 13 && c == 10) ≡ t → (cond t There Wrong ≡ There) → b ∷ c ∷ rest ≡ 13 ∷ 10 ∷ rest) [
  | true ↦ λ t g. let two = pair b c t in rw (two.0, two.1) refl
  | false ↦ λ t g. absurd (cc)
]) refl e

pub data_done : (old : List ℕ) (x : Option (List ℕ)) (held new before after : List ℕ) (y : Option (List ℕ)) (n : ℕ)
    → closing (drop n held) ≡ There → after ≡ before ++ take n held → new ≡ drop (n + 2) held → SameBytes old x held y
    → Over (DataRead n before after) old x new y (Ok tt)
data_done old x held new before after y n there added e same =
    let within : n ≤ length held = closing_within n held There there (λ z. cc) in
    let two : drop n held ≡ 13 ∷ 10 ∷ new = closing_there (drop n held) there ∙ ap (λ l. 13 ∷ 10 ∷ l) (drop-drop 2 n held ∙ sym e) in
    over (DataRead n before after) old x held new y (Ok tt) same (λ ys. (
      take n held,
      omega (arith, within, length-take n held),
      added,
      ap (λ l. l ++ ys) (sym (take-append-drop n held) ∙ ap (λ l. take n held ++ l) two) ∙ append_assoc (take n held) (13 ∷ 10 ∷ new) ys,
    ))

pub data_room : (n : ℕ) (held : List ℕ) → closing (drop n held) ≡ There → n + 2 ≤ length held
data_room n held there =
    let within : n ≤ length held = closing_within n held There there (λ z. cc) in
    omega (arith, within, length-drop n held, ap length (closing_there (drop n held) there))

pub data_stopped : (old : List ℕ) (x : Option (List ℕ)) (held before after : List ℕ) (y : Option (List ℕ)) (n : ℕ) (f : EdgeFault)
    → DataTaken n held y (Err f) → Takes x y → (f ≢ Memory → SameBytes old x held y) → Over (DataRead n before after) old x held y (Err f)
data_stopped old x held before after y n BadHead taken told same = absurd taken
data_stopped old x held before after y n HeadTooLong taken told same = absurd taken
data_stopped old x held before after y n BadChunk taken told same = over (DataRead n before after) old x held held y (Err BadChunk) (same (λ e. cc)) (λ ys. data_grows n held ys Wrong taken (λ z. cc))
data_stopped old x held before after y n (Cut k) taken told same = over_end (DataRead n before after) old x held held y (Err (Cut k)) (same (λ e. cc)) taken.2 (taken.0, taken.1, refl)
data_stopped old x held before after y n ReadFault taken told same = over (DataRead n before after) old x held held y (Err ReadFault) (same (λ e. cc)) (λ ys. (held, refl, taken))
data_stopped old x held before after y n Memory taken told same = over_any (DataRead n before after) old x held y (Err Memory) told (λ all ys. tt)

-- ---- trailers

abbrev Grown : Option ℕ → Option ℕ → Type 0
Grown a b = (a ≡ None) ⊎ (b ≡ a)

either_way : (b : Bool) (x y x' y' : Option ℕ) → Grown x x' → Grown y y' → Grown (cond b x y) (cond b x' y')
either_way true x y x' y' p q = p
either_way false x y x' y' p q = q

trailers_grow : (bs ys : List ℕ) (at : ℕ) (spot : Spot) → Grown (trailers_from at spot bs) (trailers_from at spot (bs ++ ys))
trailers_grow [] ys at spot = inl refl
trailers_grow (b ∷ bs) ys at Fresh = either_way (b == 10) _ _ _ _ (inr refl) (either_way (b == 13) _ _ _ _ (trailers_grow bs ys (at + 1) Returned) (trailers_grow bs ys (at + 1) Inside))
trailers_grow (b ∷ bs) ys at Returned = either_way (b == 10) _ _ _ _ (inr refl) (trailers_grow bs ys (at + 1) Inside)
trailers_grow (b ∷ bs) ys at Inside = either_way (b == 10) _ _ _ _ (trailers_grow bs ys (at + 1) Fresh) (trailers_grow bs ys (at + 1) Inside)

abbrev Within : Option ℕ → ℕ → Type 0
Within None m = Unit {0}
Within (Some n) m = n ≤ m

within_either : (b : Bool) (x y : Option ℕ) (m : ℕ) → Within x m → Within y m → Within (cond b x y) m
within_either true x y m p q = p
within_either false x y m p q = q

same_bound : (h : Option ℕ) (m k : ℕ) → m ≡ k → Within h m → Within h k
same_bound h m k e p = let P : ℕ → Type 0 = λ n. Within h n in subst P e p

trailers_within : (bs : List ℕ) (at : ℕ) (spot : Spot) → Within (trailers_from at spot bs) (at + length bs)
trailers_within [] at spot = tt
trailers_within (b ∷ bs) at Fresh =
    let e : at + 1 + length bs ≡ at + suc (length bs) = omega arith in
    let f : at + 1 ≤ at + suc (length bs) = omega arith in
    within_either (b == 10) (Some (at + 1)) _ _ f (within_either (b == 13) _ _ _ (same_bound _ _ _ e (trailers_within bs (at + 1) Returned)) (same_bound _ _ _ e (trailers_within bs (at + 1) Inside)))
trailers_within (b ∷ bs) at Returned =
    let e : at + 1 + length bs ≡ at + suc (length bs) = omega arith in
    let f : at + 1 ≤ at + suc (length bs) = omega arith in
    within_either (b == 10) (Some (at + 1)) _ _ f (same_bound _ _ _ e (trailers_within bs (at + 1) Inside))
trailers_within (b ∷ bs) at Inside =
    let e : at + 1 + length bs ≡ at + suc (length bs) = omega arith in
    within_either (b == 10) _ _ _ (same_bound _ _ _ e (trailers_within bs (at + 1) Fresh)) (same_bound _ _ _ e (trailers_within bs (at + 1) Inside))

pub trailers_room : (held : List ℕ) (n : ℕ) → trailers held ≡ Some n → n ≤ length held
trailers_room held n e =
    let w : Within (trailers held) (length (take 10240 held)) = same_bound (trailers held) (0 + length (take 10240 held)) (length (take 10240 held)) (omega arith) (trailers_within (take 10240 held) 0 Fresh) in
    let P : Option ℕ → Type 0 = λ o. Within o (length (take 10240 held)) in
    let v : n ≤ length (take 10240 held) = subst P e w in
    omega (arith, v, length-take 10240 held)

pub none_some : (o : Option ℕ) (n : ℕ) → o ≡ None → o ≡ Some n → ⊥
none_some o n a b = cc

trailers_more : (held ys : List ℕ) (n : ℕ) → trailers held ≡ Some n → trailers (held ++ ys) ≡ Some n
trailers_more held ys n e = elim (trailers_grow (take 10240 held) (take (10240 - length held) ys) 0 Fresh) [
  | inl none ↦ absurd (none_some _ n none e)
  | inr g ↦ ap (λ l. trailers_from 0 Fresh l) (take_both 10240 held ys) ∙ g ∙ e
]

pub trailers_done : (old : List ℕ) (x : Option (List ℕ)) (held new : List ℕ) (y : Option (List ℕ)) (n : ℕ)
    → trailers held ≡ Some n → new ≡ drop n held → SameBytes old x held y → Over TrailersRead old x new y (Ok tt)
trailers_done old x held new y n t e same =
    over TrailersRead old x held new y (Ok tt) same (λ ys.
    (n, trailers_more held ys n t, ap (λ l. l ++ ys) e ∙ sym (drop-append-le n held ys (trailers_room held n t))))

pub trailers_stopped : (old : List ℕ) (x : Option (List ℕ)) (held : List ℕ) (y : Option (List ℕ)) (f : EdgeFault)
    → TrailersTaken held y (Err f) → Takes x y → (f ≢ Memory → SameBytes old x held y) → Over TrailersRead old x held y (Err f)
trailers_stopped old x held y BadHead taken told same = absurd taken
trailers_stopped old x held y BadChunk taken told same = absurd taken
trailers_stopped old x held y HeadTooLong taken told same =
    over TrailersRead old x held held y (Err HeadTooLong) (same (λ e. cc)) (λ ys.
    (ap (λ l. trailers_from 0 Fresh l) (take-append-le 10240 held ys taken.1) ∙ taken.0, omega (arith, taken.1, length-append held ys)))
trailers_stopped old x held y (Cut n) taken told same = over_end TrailersRead old x held held y (Err (Cut n)) (same (λ e. cc)) taken.3 (taken.0, taken.1, taken.2, refl)
trailers_stopped old x held y ReadFault taken told same = over TrailersRead old x held held y (Err ReadFault) (same (λ e. cc)) (λ ys. (held, refl, taken.0, taken.1))
trailers_stopped old x held y Memory taken told same = over_any TrailersRead old x held y (Err Memory) told (λ all ys. tt)
