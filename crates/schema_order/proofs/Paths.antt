-- Chains, and what they meet.
use Rattle.std.proofs.Common.{◌≡◌, ℕ, zero, suc, ◌+◌, ◌<◌, Bool, List, [], ◌∷◌, ◌++◌, length, Some, refl, sym, ap, arith, subst, drop, drop-cons, get_or, ◌≤◌}
use Rattle.std.specs.Prelude.{slice_get, Vec}
use Rattle.std.specs.declared.alloc.Global.{Global}
use Rattle.schema_order.specs.Leads.{IsAmong, here, behind, Leads, arrived, onward, IsSeen, AllSeen, AllAmong, AllLed, AreClosed, edges_of, lists_of}

-- one edge more at the end
pub further : (es : List (List ℕ)) (a b c : ℕ) → Leads es a b → IsAmong c (edges_of es b) → Leads es a c
further es a b c (arrived k) i = onward a c c i (arrived c)
further es a b c (onward j k m edge rest) i = onward j k c edge (further es k m c rest i)

among_behind : (x : ℕ) (xs ks : List ℕ) → AllAmong xs ks → AllAmong (x ∷ xs) ks
among_behind x xs [] h = tt
among_behind x xs (k ∷ ks) h = (behind k x xs h.0, among_behind x xs ks h.1)

pub all_among : (xs : List ℕ) → AllAmong xs xs
all_among [] = tt
all_among (x ∷ xs) = (here x xs, among_behind x xs xs (all_among xs))

seen_among : (seen : List Bool) (xs : List ℕ) (b : ℕ) → AllSeen seen xs → IsAmong b xs → IsSeen seen b
seen_among seen xs b h (here c cs) = h.0
seen_among seen xs b h (behind c x cs i) = seen_among seen cs c h.1 i

-- nothing leads out of what is closed
pub stays : (es : List (List ℕ)) (seen : List Bool) (a c : ℕ) → AreClosed es seen → IsSeen seen a → Leads es a c → IsSeen seen c
stays es seen a c closed h (arrived k) = h
stays es seen a c closed h (onward j k m edge rest) = stays es seen k m closed (seen_among seen (edges_of es j) k (closed j h) edge) rest

one_more : (i : ℕ) → suc i ≡ i + 1
one_more i = omega arith

-- the next of those that are left
pub next_among : (xs ks : List ℕ) (i : ℕ) → i < length ks → AllAmong xs (drop i ks) → IsAmong (get_or ks i 0) xs
next_among xs ks i h all = let P : List ℕ → Type 0 = AllAmong xs in (subst P (drop-cons ks i 0 h) all).0

pub next_seen : (seen : List Bool) (ks : List ℕ) (i : ℕ) → i < length ks → IsSeen seen (get_or ks i 0) → AllSeen seen (drop (i + 1) ks) → AllSeen seen (drop i ks)
next_seen seen ks i h first all =
    let P : List ℕ → Type 0 = AllSeen seen in
    let Q : ℕ → Type 0 = λ n. AllSeen seen (drop n ks) in
    subst P (sym (drop-cons ks i 0 h)) (first, subst Q (sym (one_more i)) all)

pub edges_past : (es : List (Vec ℕ Global)) (k : ℕ) → length es ≤ k → [] ≡ edges_of (lists_of es) k
edges_past [] k h = refl
edges_past (e ∷ es) zero h = absurd (omega (arith, h))
edges_past (e ∷ es) (suc k) h = edges_past es k (omega (arith, h))

pub led_last : (es : List (List ℕ)) (from : ℕ) (xs : List ℕ) (k : ℕ) → AllLed es from (xs ++ k ∷ []) → Leads es from k
led_last es from [] k h = h.0
led_last es from (x ∷ xs) k h = led_last es from xs k h.1

pub edges_there : (es : List (Vec ℕ Global)) (k : ℕ) (v : Vec ℕ Global) → slice_get es k ≡ Some v → v.items ≡ edges_of (lists_of es) k
edges_there [] k v e = cc
edges_there (x ∷ es) zero v e = let same : x ≡ v = cc in ap (λ (z : Vec ℕ Global). z.items) (sym same)
edges_there (x ∷ es) (suc k) v e = edges_there es k v e
