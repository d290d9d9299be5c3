-- Where each thing that waits stands on one that waits, a thing leads back to itself.
use Rattle.std.proofs.Common.{◌≡◌, ◌⊎◌, inl, inr, ℕ, zero, suc, ◌+◌, ◌<◌, ◌≤◌, Bool, true, false, List, [], ◌∷◌, ◌++◌, length, drop, drop-cons, get_or, refl, sym, ap, arith, subst, ◌∙◌}
use Rattle.std.proofs.Math.ListN.{set}
use Rattle.std.specs.Prelude.{◌==◌, if◌then◌else◌, Vec}
use Rattle.std.specs.List.{AllByRecursion}
use Rattle.std.specs.declared.alloc.Global.{Global}
use Rattle.std.proofs.lemmas.Bool.Decides.{nat_tests}
use Rattle.std.proofs.lemmas.List.{get_or-set_same, get_or-set_other, length-set}
use Rattle.schema_order.specs.Leads.{IsAmong, here, behind, Leads, arrived, edges_of, lists_of}
use Rattle.schema_order.specs.Ranks.{AreBlocked, AreRanked, AreRankedSoFar, AreReady, ComesRound, IsNext, IsWaiting, waiting}
use Rattle.schema_order.proofs.Paths.{further}

same_of : (a b : ℕ) → (a == b) ≡ true → a ≡ b
same_of a b e = grind (arith, nat_tests)

other_of : (a b : ℕ) → (a == b) ≡ false → a ≡ b → ⊥
other_of a b e h = grind (arith, nat_tests)

is_other : (a b : ℕ) → a < b → (a == b) ≡ false
is_other a b h = grind (arith, nat_tests)

-- one less waits
pub waiting_set : (n : ℕ) (xs : List ℕ) (k v : ℕ) → k < length xs → get_or xs k 0 ≡ n → (v == n) ≡ false → waiting n xs ≡ suc (waiting n (set xs k v))
waiting_set n [] k v h at other = absurd (omega (arith, h))
waiting_set n (x ∷ xs) zero v h at other = go (x == n) (v == n) refl other
  where
    go : (a b : Bool) → (x == n) ≡ a → b ≡ false → (if a then suc (waiting n xs) else waiting n xs) ≡ suc (if b then suc (waiting n xs) else waiting n xs)
    go true false e f = refl
    go true true e f = absurd cc
    go false b e f = absurd (other_of x n e at)
waiting_set n (x ∷ xs) (suc k) v h at other = go (x == n) (waiting_set n xs k v (omega (arith, h)) at other)
  where
    go : (a : Bool) → waiting n xs ≡ suc (waiting n (set xs k v)) → (if a then suc (waiting n xs) else waiting n xs) ≡ suc (if a then suc (waiting n (set xs k v)) else waiting n (set xs k v))
    go true e = ap suc e
    go false e = e

pub waiting_some : (n : ℕ) (xs : List ℕ) (k : ℕ) → k < length xs → get_or xs k 0 ≡ n → 0 < waiting n xs
waiting_some n [] k h at = absurd (omega (arith, h))
waiting_some n (x ∷ xs) zero h at = go (x == n) refl
  where
    go : (a : Bool) → (x == n) ≡ a → 0 < (if a then suc (waiting n xs) else waiting n xs)
    go true e = omega arith
    go false e = absurd (other_of x n e at)
waiting_some n (x ∷ xs) (suc k) h at = go (x == n) (waiting_some n xs k (omega (arith, h)) at)
  where
    go : (a : Bool) → 0 < waiting n xs → 0 < (if a then suc (waiting n xs) else waiting n xs)
    go true e = omega arith
    go false e = e

one_waits : (n : ℕ) (xs : List ℕ) → 0 < waiting n xs → (k : ℕ) × (k < length xs) × (get_or xs k 0 ≡ n)
one_waits n [] h = absurd (omega (arith, h))
one_waits n (x ∷ xs) h = go (x == n) refl h (λ i. one_waits n xs i)
  where
    go : (a : Bool) → (x == n) ≡ a → 0 < (if a then suc (waiting n xs) else waiting n xs) → (0 < waiting n xs → (k : ℕ) × (k < length xs) × (get_or xs k 0 ≡ n)) → (k : ℕ) × (k < suc (length xs)) × (get_or (x ∷ xs) k 0 ≡ n)
    go true e i more = (0, omega arith, same_of x n e)
    go false e i more = let r = more i in (suc r.0, omega (arith, r.1), r.2)

above : (n : ℕ) → (suc n == n) ≡ false
above n = grind (arith, nat_tests)

pub none_waits : (n : ℕ) (xs : List ℕ) (k : ℕ) → waiting n xs ≡ 0 → k < length xs → get_or xs k 0 ≡ n → ⊥
none_waits n xs k e h at = omega (arith, e, waiting_some n xs k h at)

-- each that waits and was met leads to c; the others are not marked
abbrev pub AreMet : List (List ℕ) → List ℕ → List ℕ → ℕ → Type 0
AreMet es ranks marks c = (v : ℕ) → IsWaiting ranks v → (get_or marks v 0 ≡ length ranks) ⊎ Leads es v c

turn : {A B C : Type 0} → A ⊎ B → (A → C) → (B → C) → C
turn (inl a) f g = f a
turn (inr b) f g = g b

mark : (es : List (List ℕ)) (ranks marks : List ℕ) (c s : ℕ) → IsAmong s (edges_of es c) → AreMet es ranks marks c → AreMet es ranks (set marks s (suc (length ranks))) s
mark es ranks marks c s edge met v waits = go (v == s) refl (met v waits)
  where
    go : (a : Bool) → (v == s) ≡ a → (get_or marks v 0 ≡ length ranks) ⊎ Leads es v c → (get_or (set marks s (suc (length ranks))) v 0 ≡ length ranks) ⊎ Leads es v s
    go true e h = let P : ℕ → Type 0 = λ z. Leads es z s in inr (subst P (sym (same_of v s e)) (arrived s))
    go false e (inl h) = inl (get_or-set_other marks s v (suc (length ranks)) 0 (other_of v s e) ∙ h)
    go false e (inr h) = inr (further es v c s h edge)

-- from one to the next that waits, until one is met again
walk : (es : List (List ℕ)) (ranks marks : List ℕ) (fuel c : ℕ) → AreBlocked es ranks → length marks ≡ length ranks → AreMet es ranks marks c → IsWaiting ranks c → waiting (length ranks) marks ≤ fuel → ComesRound es
walk es ranks marks zero c blocked same met waits few =
    let b = blocked c waits in
    turn (met b.by b.waits)
    (λ unmet. absurd (omega (arith, few, waiting_some (length ranks) marks b.by (omega (arith, same, b.waits.stands)) unmet)))
    (λ back. record { thing = c; next = b.by; stands = b.named; back = back })
walk es ranks marks (suc fuel) c blocked same met waits few =
    let b = blocked c waits in
    turn (met b.by b.waits)
    (λ unmet.
    let one = waiting_set (length ranks) marks b.by (suc (length ranks)) (omega (arith, same, b.waits.stands)) unmet (above (length ranks)) in
    walk es ranks (set marks b.by (suc (length ranks))) fuel b.by blocked (length-set marks b.by (suc (length ranks)) ∙ same) (mark es ranks marks c b.by b.named met) b.waits (omega (arith, few, one)))
    (λ back. record { thing = c; next = b.by; stands = b.named; back = back })

comes_round : (es : List (List ℕ)) (ranks : List ℕ) → AreBlocked es ranks → 0 < waiting (length ranks) ranks → ComesRound es
comes_round es ranks blocked some =
    let first = one_waits (length ranks) ranks some in
    walk es ranks ranks (waiting (length ranks) ranks) first.0 blocked refl (λ v waits. inl waits.unranked) (record { stands = first.1; unranked = first.2 }) (omega arith)

-- one more has a rank
pub ranked_next : (es : List (List ℕ)) (ranks : List ℕ) (next k : ℕ) → AreRankedSoFar es ranks next → IsNext es ranks k → AreRankedSoFar es (set ranks k next) (next + 1)
ranked_next es ranks next k r i = record {
  all = length-set ranks k next ∙ r.all;
  count = omega (arith, r.count, waiting_set (length es) ranks k next i.waits.stands (i.waits.unranked ∙ r.all) (is_other next (length es) few));
  low = λ j h. low j (j == k) refl (r.low j h);
  after = λ j s h ranked stands edge. after j s (j == k) refl h ranked stands edge;
}
  where
    few : next < length es
    few = omega (arith, r.count, waiting_some (length es) ranks k i.waits.stands (i.waits.unranked ∙ r.all))

    mine : get_or (set ranks k next) k 0 ≡ next
    mine = get_or-set_same ranks k next 0 i.waits.stands

    there : (j : ℕ) → (j ≡ k → ⊥) → get_or (set ranks k next) j 0 ≡ get_or ranks j 0
    there j other = get_or-set_other ranks k j next 0 other

    low : (j : ℕ) (a : Bool) → (j == k) ≡ a → (get_or ranks j 0 ≡ length es) ⊎ (get_or ranks j 0 < next) → (get_or (set ranks k next) j 0 ≡ length es) ⊎ (get_or (set ranks k next) j 0 < next + 1)
    low j true e h = let P : ℕ → Type 0 = λ z. get_or (set ranks k next) z 0 < next + 1 in inr (subst P (sym (same_of j k e)) (omega (arith, mine)))
    low j false e (inl h) = inl (there j (other_of j k e) ∙ h)
    low j false e (inr h) = inr (omega (arith, h, there j (other_of j k e)))

    below : (s : ℕ) → s < length es → (IsWaiting ranks s → ⊥) → (get_or ranks s 0 ≡ length es) ⊎ (get_or ranks s 0 < next) → get_or ranks s 0 < next
    below s stands free (inl h) = absurd (free (record { stands = omega (arith, stands, r.all); unranked = h ∙ sym r.all }))
    below s stands free (inr h) = h

    after : (j s : ℕ) (a : Bool) → (j == k) ≡ a → j < length es → get_or (set ranks k next) j 0 < length es → s < length es → IsAmong s (edges_of es j) → get_or (set ranks k next) s 0 < get_or (set ranks k next) j 0
    after j s true e h ranked stands edge =
        let is = same_of j k e in
        let P : ℕ → Type 0 = λ z. IsAmong s (edges_of es z) in
        let Q : ℕ → Type 0 = λ z. IsWaiting ranks z in
        let free : IsWaiting ranks s → ⊥ = i.ready s (subst P is edge) in
        let other : s ≡ k → ⊥ = λ same. free (subst Q (sym same) i.waits) in
        let its : get_or (set ranks k next) j 0 ≡ next = ap (λ z. get_or (set ranks k next) z 0) is ∙ mine in
        omega (arith, its, there s other, below s stands free (r.low s stands))
    after j s false e h ranked stands edge =
        let its = there j (other_of j k e) in
        let less = r.after j s h (omega (arith, its, ranked)) stands edge in
        let other : s ≡ k → ⊥ = λ same. omega (arith, ap (λ z. get_or ranks z 0) same, i.waits.unranked, r.all, less, its, ranked) in
        omega (arith, its, less, there s other)

-- where none waits, all are ranked
pub all_ranked : (es : List (List ℕ)) (ranks : List ℕ) (next : ℕ) → AreRankedSoFar es ranks next → length es ≤ next → AreRanked es ranks
all_ranked es ranks next r h = record {
  all = r.all;
  few = few;
  after = λ k s stands there edge. r.after k s stands (few k stands) there edge;
}
  where
    none : waiting (length es) ranks ≡ 0
    none = omega (arith, r.count, h)

    go : (k : ℕ) → k < length es → (get_or ranks k 0 ≡ length es) ⊎ (get_or ranks k 0 < next) → get_or ranks k 0 < length es
    go k stands (inl e) = absurd (none_waits (length es) ranks k none (omega (arith, stands, r.all)) e)
    go k stands (inr low) = omega (arith, low, r.count)

    few : (k : ℕ) → k < length es → get_or ranks k 0 < length es
    few k stands = go k stands (r.low k stands)

-- where some thing waits, and each for another, one leads back to itself
pub stuck : (es : List (List ℕ)) (ranks : List ℕ) (next : ℕ) → AreRankedSoFar es ranks next → next < length es → AreBlocked es ranks → ComesRound es
stuck es ranks next r h blocked =
    let P : ℕ → Type 0 = λ n. 0 < waiting n ranks in
    let some : 0 < waiting (length es) ranks = omega (arith, r.count, h) in
    comes_round es ranks blocked (subst P (sym r.all) some)

pub ready_on : (ranks : List ℕ) (k : ℕ) (ks : List ℕ) → (IsWaiting ranks k → ⊥) → AreReady ranks ks → AreReady ranks (k ∷ ks)
ready_on ranks k ks free ready s (here b bs) = free
ready_on ranks k ks free ready s (behind b x bs i) = ready s i

pub among_at : (ks : List ℕ) (i : ℕ) → i < length ks → IsAmong (get_or ks i 0) ks
among_at [] i h = absurd (omega (arith, h))
among_at (k ∷ ks) zero h = here k ks
among_at (k ∷ ks) (suc i) h = behind (get_or ks i 0) k ks (among_at ks i (omega (arith, h)))

pub ready_next : (ranks ks : List ℕ) (i : ℕ) → i < length ks → (IsWaiting ranks (get_or ks i 0) → ⊥) → AreReady ranks (drop (i + 1) ks) → AreReady ranks (drop i ks)
ready_next ranks ks i h free rest =
    let one : i + 1 ≡ suc i = omega arith in
    let P : ℕ → Type 0 = λ n. AreReady ranks (drop n ks) in
    let Q : List ℕ → Type 0 = AreReady ranks in
    subst Q (sym (drop-cons ks i 0 h)) (ready_on ranks (get_or ks i 0) (drop (suc i) ks) free (subst P one rest))

drop_past : (ks : List ℕ) (i : ℕ) → length ks ≤ i → drop i ks ≡ []
drop_past [] zero h = refl
drop_past [] (suc i) h = refl
drop_past (k ∷ ks) zero h = absurd (omega (arith, h))
drop_past (k ∷ ks) (suc i) h = drop_past ks i (omega (arith, h))

none_among : (s : ℕ) (ks : List ℕ) → ks ≡ [] → IsAmong s ks → ⊥
none_among s ks e (here b bs) = absurd cc
none_among s ks e (behind b x bs i) = absurd cc

pub ready_past : (ranks ks : List ℕ) (i : ℕ) → length ks ≤ i → AreReady ranks (drop i ks)
ready_past ranks ks i h s among waits = none_among s (drop i ks) (drop_past ks i h) among

-- no thing has a rank
abbrev pub AllWait : ℕ → List ℕ → Type 0
AllWait n xs = AllByRecursion (λ r. r ≡ n) xs

pub wait_push : (n : ℕ) (xs : List ℕ) → AllWait n xs → AllWait n (xs ++ n ∷ [])
wait_push n [] h = (refl, tt)
wait_push n (x ∷ xs) h = (h.0, wait_push n xs h.1)

wait_at : (n : ℕ) (xs : List ℕ) (k : ℕ) → AllWait n xs → k < length xs → get_or xs k 0 ≡ n
wait_at n [] k h i = absurd (omega (arith, i))
wait_at n (x ∷ xs) zero h i = h.0
wait_at n (x ∷ xs) (suc k) h i = wait_at n xs k h.1 (omega (arith, i))

wait_count : (n : ℕ) (xs : List ℕ) → AllWait n xs → waiting n xs ≡ length xs
wait_count n [] h = refl
wait_count n (x ∷ xs) h = go (x == n) refl (wait_count n xs h.1)
  where
    go : (a : Bool) → (x == n) ≡ a → waiting n xs ≡ length xs → (if a then suc (waiting n xs) else waiting n xs) ≡ suc (length xs)
    go true e r = ap suc r
    go false e r = absurd (other_of x n e h.0)

pub none_ranked : (es : List (List ℕ)) (xs : List ℕ) → length xs ≡ length es → AllWait (length es) xs → AreRankedSoFar es xs 0
none_ranked es xs all h = record {
  all = all;
  count = omega (arith, wait_count (length es) xs h, all);
  low = λ k stands. inl (wait_at (length es) xs k h (omega (arith, stands, all)));
  after = λ k s stands ranked there edge. absurd (omega (arith, ranked, wait_at (length es) xs k h (omega (arith, stands, all))));
}

pub lists_length : (vs : List (Vec ℕ Global)) → length (lists_of vs) ≡ length vs
lists_length [] = refl
lists_length (v ∷ vs) = ap suc (lists_length vs)
