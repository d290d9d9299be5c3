-- What a body comes to is one thing.
use Rattle.std.proofs.Common.{arith, ◌≡◌, ℕ, ◌+◌, ◌<◌, ◌≤◌, ◌⊎◌, inl, inr, List, ◌++◌, length, take, drop, take-append-drop, refl, sym, ap, ◌∙◌, subst, Option, Some, Result, Ok, Err}
use Rattle.std.specs.Prelude.{OnOk}
use Rattle.std.proofs.lemmas.List.{length-append, length-take}
use Rattle.http_framing.specs.Bodies.{IsKnown, IsChunked, IsRest, Closes}
use Rattle.http_framing.specs.Chunks.{HasLine, content, trailers, LastChunk, PassesLimit}
use Rattle.http_framing.specs.declared.body.Body.{Body}
use Rattle.http_framing.specs.declared.body.Body.TheVariants.{Read, PastLimit}
use Rattle.http_framing.specs.declared.fault.EdgeFault.{EdgeFault}
use Rattle.http_framing.specs.declared.fault.EdgeFault.TheVariants.{BadHead, HeadTooLong, BadChunk, Cut, ReadFault, Memory}
use Rattle.http_framing.proofs.Unique.{Stand, last, large, wrong, long, awaits, Stands, line_unique, chunks_unique, same_front}

abbrev Outcome : Type 0
Outcome = Result Body EdgeFault

-- two outcomes are one, and what is left behind them
abbrev pub Same : {T : Type 0} → Result T EdgeFault → Result T EdgeFault → List ℕ → List ℕ → Type 0
Same a b x y = (a ≡ b) × OnOk a (x ≡ y)

-- what is left behind an outcome is one
pub on_ok : {T : Type 0} (a : Result T EdgeFault) (x y : List ℕ) → x ≡ y → OnOk a (x ≡ y)
on_ok (Ok v) x y e = e
on_ok (Err f) x y e = tt

pub on_err : {T : Type 0} (a : Result T EdgeFault) (f : EdgeFault) (x y : List ℕ) → a ≡ Err f → OnOk a (x ≡ y)
on_err {T} a f x y e = let O : Result T EdgeFault → Type 0 = λ r. OnOk r (x ≡ y) in subst O (sym e) tt

-- ---- a known length, by three tests of which one holds

abbrev Knows : ℕ → List ℕ → Outcome → List ℕ → Type 0
Knows n bytes a x =
    ((10485760 < n) × (a ≡ Ok PastLimit) × (x ≡ bytes))
    ⊎ (((n ≤ 10485760) × (length bytes < n) × (a ≡ Err (Cut (length bytes))))
    ⊎ ((n ≤ 10485760) × (n ≤ length bytes) × (a ≡ Ok (Read (take n bytes))) × (x ≡ drop n bytes)))

parted : (body x bytes : List ℕ) (n : ℕ) → length body ≡ n → bytes ≡ body ++ x → (body ≡ take n bytes) × (x ≡ drop n bytes)
parted body x bytes n size whole =
    let longer : n ≤ length bytes = omega (arith, size, ap length whole, length-append body x) in
    let same = same_front body (take n bytes) x (drop n bytes) (omega (arith, size, longer, length-take n bytes)) (sym whole ∙ sym (take-append-drop n bytes)) in
    (same.0, same.1)

knows : (a : Outcome) (n : ℕ) (bytes x : List ℕ) → IsKnown n bytes a x → Knows n bytes a x
knows (Ok (Read body)) n bytes x (size, near, whole) =
    let two = parted body x bytes n size whole in
    inr (inr (near, omega (arith, size, ap length whole, length-append body x), ap (λ z. Ok (Read z)) two.0, two.1))
knows (Ok PastLimit) n bytes x (far, e) = inl (far, refl, e)
knows (Err (Cut k)) n bytes x (near, short, e) = inr (inl (near, short, ap (λ z. Err (Cut z)) e))
knows (Err BadHead) n bytes x b = absurd b
knows (Err HeadTooLong) n bytes x b = absurd b
knows (Err BadChunk) n bytes x b = absurd b
knows (Err ReadFault) n bytes x b = absurd b
knows (Err Memory) n bytes x b = absurd b

knows_one : (a b : Outcome) (n : ℕ) (bytes x y : List ℕ) → Knows n bytes a x → Knows n bytes b y → Same a b x y
knows_one a b n bytes x y (inl c) (inl d) = (c.1 ∙ sym d.1, on_ok a x y (c.2 ∙ sym d.2))
knows_one a b n bytes x y (inl c) (inr (inl d)) = absurd (omega (arith, c.0, d.0))
knows_one a b n bytes x y (inl c) (inr (inr d)) = absurd (omega (arith, c.0, d.0))
knows_one a b n bytes x y (inr (inl c)) (inl d) = absurd (omega (arith, c.0, d.0))
knows_one a b n bytes x y (inr (inr c)) (inl d) = absurd (omega (arith, c.0, d.0))
knows_one a b n bytes x y (inr (inl c)) (inr (inl d)) = (c.2 ∙ sym d.2, on_err a (Cut (length bytes)) x y c.2)
knows_one a b n bytes x y (inr (inl c)) (inr (inr d)) = absurd (omega (arith, c.1, d.1))
knows_one a b n bytes x y (inr (inr c)) (inr (inl d)) = absurd (omega (arith, c.1, d.1))
knows_one a b n bytes x y (inr (inr c)) (inr (inr d)) = (c.2 ∙ sym d.2, on_ok a x y (c.3 ∙ sym d.3))

pub known_unique : (a b : Outcome) (n : ℕ) (bytes x y : List ℕ) → IsKnown n bytes a x → IsKnown n bytes b y → Same a b x y
known_unique a b n bytes x y c d = knows_one a b n bytes x y (knows a n bytes x c) (knows b n bytes y d)

-- ---- chunks

-- what is answered where this stands behind the chunks
abbrev said : Stand → List ℕ → ℕ → Outcome
said last before count = Ok (Read before)
said large before count = Ok PastLimit
said wrong before count = Err BadChunk
said long before count = Err HeadTooLong
said awaits before count = Err (Cut count)

closes_stand : (res : Outcome) (before : List ℕ) (count : ℕ) (at rest : List ℕ) → Closes before count at res rest → (t : Stand) × Stands t (length before) at × (res ≡ said t before count)
closes_stand (Ok (Read body)) before count at rest (e, l) = (last, (rest, l), ap (λ z. Ok (Read z)) e)
closes_stand (Ok PastLimit) before count at rest l = (large, (rest, l), refl)
closes_stand (Err BadChunk) before count at rest c = (wrong, c, refl)
closes_stand (Err HeadTooLong) before count at rest c = (long, c, refl)
closes_stand (Err (Cut k)) before count at rest (c, e) = (awaits, c, ap (λ z. Err (Cut z)) e)
closes_stand (Err BadHead) before count at rest c = absurd c
closes_stand (Err ReadFault) before count at rest c = absurd c
closes_stand (Err Memory) before count at rest c = absurd c

-- behind the last chunk, and behind a line that passes the limit, one thing is left
last_rest : (at bt x y : List ℕ) → at ≡ bt → LastChunk at x → LastChunk bt y → x ≡ y
last_rest at bt x y e (b, n, line, t, r) (c, m, other, u, s) =
    let P : List ℕ → Type 0 = λ l. HasLine l 0 b in
    let same = line_unique bt b c 0 0 (subst P e line) other in
    let count : n ≡ m = one_some (trailers c) n m (ap trailers (sym same.1) ∙ t) u in
    r ∙ ap (λ k. drop k b) count ∙ ap (λ l. drop m l) same.1 ∙ sym s
  where
    one_some : (o : Option ℕ) (n m : ℕ) → o ≡ Some n → o ≡ Some m → n ≡ m
    one_some o n m p q = cc

large_rest : (sum tum : ℕ) (at bt x y : List ℕ) → at ≡ bt → PassesLimit sum at x → PassesLimit tum bt y → x ≡ y
large_rest sum tum at bt x y e (s, line, far) (t, other, near) =
    let P : List ℕ → Type 0 = λ l. HasLine l s x in
    (line_unique bt x y s t (subst P e line) other).1

closes_rest : (a b : Outcome) (before now : List ℕ) (count : ℕ) (at bt x y : List ℕ) → at ≡ bt → Closes before count at a x → Closes now count bt b y → a ≡ b → OnOk a (x ≡ y)
closes_rest (Ok (Read p)) (Ok (Read q)) before now count at bt x y e c d same = last_rest at bt x y e c.1 d.1
closes_rest (Ok PastLimit) (Ok PastLimit) before now count at bt x y e c d same = large_rest (length before) (length now) at bt x y e c d
closes_rest (Ok (Read p)) (Ok PastLimit) before now count at bt x y e c d same = absurd (cc)
closes_rest (Ok PastLimit) (Ok (Read q)) before now count at bt x y e c d same = absurd (cc)
closes_rest (Ok (Read p)) (Err f) before now count at bt x y e c d same = absurd (cc)
closes_rest (Ok PastLimit) (Err f) before now count at bt x y e c d same = absurd (cc)
closes_rest (Err f) b before now count at bt x y e c d same = tt

from_zero : (t : Stand) (n : ℕ) (at : List ℕ) → Stands t n at → Stands t (0 + n) at
from_zero t n at s = let P : ℕ → Type 0 = λ z. Stands t z at in let e : n ≡ 0 + n = omega arith in subst P e s

pub chunked_unique : (a b : Outcome) (bytes x y : List ℕ) → IsChunked bytes a x → IsChunked bytes b y → Same a b x y
chunked_unique a b bytes x y (ps, at, c, n, cl) (qs, bt, d, m, dl) =
    let s = closes_stand a (content ps) (length bytes) at x cl in
    let v = closes_stand b (content qs) (length bytes) bt y dl in
    let one = chunks_unique s.0 v.0 ps qs 0 bytes at bt (omega (arith, n)) (omega (arith, m)) c d (from_zero s.0 _ at s.1) (from_zero v.0 _ bt v.1) in
    let same : a ≡ b = s.2 ∙ ap (λ t. said t (content ps) (length bytes)) one.2 ∙ ap (λ z. said v.0 (content z) (length bytes)) one.0 ∙ sym v.2 in
    (same, closes_rest a b (content ps) (content qs) (length bytes) at bt x y one.1 cl dl same)

-- ---- all up to the end

pub rest_unique : (a b : Result (List ℕ) EdgeFault) (bytes x y : List ℕ) → IsRest bytes a x → IsRest bytes b y → Same a b x y
rest_unique (Ok p) (Ok q) bytes x y c d = (ap Ok (c.0 ∙ sym d.0), c.1 ∙ sym d.1)
rest_unique (Ok p) (Err BadChunk) bytes x y c d = absurd (omega (arith, c.2, d))
rest_unique (Err BadChunk) (Ok q) bytes x y c d = absurd (omega (arith, c, d.2))
rest_unique (Err BadChunk) (Err BadChunk) bytes x y c d = (refl, tt)
rest_unique (Ok p) (Err BadHead) bytes x y c d = absurd d
rest_unique (Ok p) (Err HeadTooLong) bytes x y c d = absurd d
rest_unique (Ok p) (Err (Cut k)) bytes x y c d = absurd d
rest_unique (Ok p) (Err ReadFault) bytes x y c d = absurd d
rest_unique (Ok p) (Err Memory) bytes x y c d = absurd d
rest_unique (Err BadChunk) (Err BadHead) bytes x y c d = absurd d
rest_unique (Err BadChunk) (Err HeadTooLong) bytes x y c d = absurd d
rest_unique (Err BadChunk) (Err (Cut k)) bytes x y c d = absurd d
rest_unique (Err BadChunk) (Err ReadFault) bytes x y c d = absurd d
rest_unique (Err BadChunk) (Err Memory) bytes x y c d = absurd d
rest_unique (Err BadHead) b bytes x y c d = absurd c
rest_unique (Err HeadTooLong) b bytes x y c d = absurd c
rest_unique (Err (Cut k)) b bytes x y c d = absurd c
rest_unique (Err ReadFault) b bytes x y c d = absurd c
rest_unique (Err Memory) b bytes x y c d = absurd c
