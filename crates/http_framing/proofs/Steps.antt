-- The steps of reading a body, over all that is left.
use Rattle.std.proofs.Common.{arith, ◌≡◌, ◌≢◌, ℕ, ◌≤◌, List, [], ◌++◌, length, take, drop, take-append-drop, refl, sym, ap, ◌∙◌, append_assoc, append-nil, Option, Ok, Err}
use Rattle.std.proofs.lemmas.List.{length-append, length-take}
use Rattle.http_framing.specs.Bodies.{IsKnown}
use Rattle.http_framing.specs.BodyReads.{BodyRead, BytesAwaited, BytesRead, RestAwaited, RestRead}
use Rattle.http_framing.specs.Stream.{SameBytes, Takes, Over}
use Rattle.http_framing.specs.declared.body.Body.TheVariants.{Read}
use Rattle.http_framing.specs.declared.fault.EdgeFault.{EdgeFault}
use Rattle.http_framing.specs.declared.fault.EdgeFault.TheVariants.{BadHead, HeadTooLong, BadChunk, Cut, ReadFault, Memory}
use Rattle.http_framing.proofs.Overs.{over, over_end, over_any}

-- so many bytes were read and used
pub bytes_done : (old : List ℕ) (x : Option (List ℕ)) (held new body : List ℕ) (y : Option (List ℕ)) (n : ℕ)
    → n ≤ length held → body ≡ take n held → new ≡ drop n held → SameBytes old x held y → Over (BytesRead n) old x new y (Ok body)
bytes_done old x held new body y n enough b e same =
    over (BytesRead n) old x held new y (Ok body) same (λ ys. (
      omega (arith, enough, ap length b, length-take n held),
      ap (λ l. l ++ ys) (sym (take-append-drop n held)) ∙ append_assoc (take n held) (drop n held) ys ∙ ap (λ l. take n held ++ (l ++ ys)) (sym e) ∙ ap (λ l. l ++ (new ++ ys)) (sym b),
    ))

-- they were not read
pub bytes_stopped : (old : List ℕ) (x : Option (List ℕ)) (held : List ℕ) (y : Option (List ℕ)) (n : ℕ) (f : EdgeFault)
    → BytesAwaited n held y (Err f) → Takes x y → (f ≢ Memory → SameBytes old x held y) → Over (BytesRead n) old x held y (Err f)
bytes_stopped old x held y n BadHead awaited told same = absurd awaited
bytes_stopped old x held y n HeadTooLong awaited told same = absurd awaited
bytes_stopped old x held y n BadChunk awaited told same = absurd awaited
bytes_stopped old x held y n (Cut k) awaited told same = over_end (BytesRead n) old x held held y (Err (Cut k)) (same (λ e. cc)) awaited.2 (awaited.0, awaited.1, refl)
bytes_stopped old x held y n ReadFault awaited told same = over (BytesRead n) old x held held y (Err ReadFault) (same (λ e. cc)) (λ ys. (held, refl, awaited))
bytes_stopped old x held y n Memory awaited told same = over_any (BytesRead n) old x held y (Err Memory) told (λ all ys. tt)

-- a body of a known length was read
pub known_done : (n : ℕ) (body all m l : List ℕ) → n ≤ 10485760 → BytesRead n all m l (Ok body) → BodyRead (IsKnown n) all m l (Ok (Read body))
known_done n body all m l near h = (h.0, near, h.1)

-- it was not read
pub known_stopped : (n : ℕ) (f : EdgeFault) (all m l : List ℕ) → n ≤ 10485760 → BytesRead n all m l (Err f) → BodyRead (IsKnown n) all m l (Err f)
known_stopped n BadHead all m l near h = h
known_stopped n HeadTooLong all m l near h = h
known_stopped n BadChunk all m l near h = h
known_stopped n (Cut k) all m l near h = ((near, h.0, h.1), h.2)
known_stopped n ReadFault all m l near (taken, e, short) = (taken, e, (near, short, refl))
known_stopped n Memory all m l near h = tt

-- all up to the end was read and used
pub rest_done : (old : List ℕ) (x : Option (List ℕ)) (held new body : List ℕ) (y : Option (List ℕ))
    → RestAwaited held y (Ok tt) → body ≡ held → new ≡ [] → SameBytes old x held y → Over RestRead old x new y (Ok body)
rest_done old x held new body y awaited b e same =
    over_end RestRead old x held new y (Ok body) same awaited.1 (b, append-nil new ∙ e, awaited.0)

-- it was not read
pub rest_stopped : (old : List ℕ) (x : Option (List ℕ)) (held : List ℕ) (y : Option (List ℕ)) (f : EdgeFault)
    → RestAwaited held y (Err f) → Takes x y → (f ≢ Memory → SameBytes old x held y) → Over RestRead old x held y (Err f)
rest_stopped old x held y BadHead awaited told same = absurd awaited
rest_stopped old x held y HeadTooLong awaited told same = absurd awaited
rest_stopped old x held y BadChunk awaited told same = over RestRead old x held held y (Err BadChunk) (same (λ e. cc)) (λ ys. omega (arith, awaited, length-append held ys))
rest_stopped old x held y (Cut k) awaited told same = absurd awaited
rest_stopped old x held y ReadFault awaited told same = over RestRead old x held held y (Err ReadFault) (same (λ e. cc)) (λ ys. (held, refl, awaited))
rest_stopped old x held y Memory awaited told same = over_any RestRead old x held y (Err Memory) told (λ all ys. tt)
