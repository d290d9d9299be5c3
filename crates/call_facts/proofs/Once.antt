-- Pairs that stand again behind a place, and those that do not.
use Rattle.std.proofs.Common.{◌≡◌, ℕ, suc, ◌+◌, ◌<◌, Bool, true, false, cond, List, ◌∷◌, length, drop, get_or, sym, ◌∙◌, ap, arith, drop-cons}
use Rattle.std.specs.List.{list_any}
use Rattle.std.specs.Str.{bytes_eq}
use Rattle.call_facts.specs.Pairs.{Pairs, each_once}

-- a name stands again behind this place
abbrev pub again : Pairs → ℕ → List ℕ × List ℕ → Bool
again ps i p = list_any (λ q. bytes_eq q.0 p.0) (drop (i + 1) ps)

head : (ps : Pairs) (i : ℕ) (p : List ℕ × List ℕ) → i < length ps → p ≡ get_or ps i p → drop i ps ≡ p ∷ drop (i + 1) ps
head ps i p lt is =
    let e : suc i ≡ i + 1 = omega arith in
    drop-cons ps i p lt ∙ (ap (λ q. q ∷ drop (suc i) ps) (sym is) ∙ ap (λ k. p ∷ drop k ps) e)

by_head : (ps : Pairs) (i : ℕ) (p : List ℕ × List ℕ) → i < length ps → p ≡ get_or ps i p
    → each_once (drop i ps) ≡ cond (again ps i p) (each_once (drop (i + 1) ps)) (p ∷ each_once (drop (i + 1) ps))
by_head ps i p lt is = ap each_once (head ps i p lt is)

-- a pair that does not stand again is kept
pub kept_at : (ps : Pairs) (i : ℕ) (p : List ℕ × List ℕ) → i < length ps → p ≡ get_or ps i p → again ps i p ≡ false
    → each_once (drop i ps) ≡ p ∷ each_once (drop (i + 1) ps)
kept_at ps i p lt is none = by_head ps i p lt is ∙ ap (λ b. cond b (each_once (drop (i + 1) ps)) (p ∷ each_once (drop (i + 1) ps))) none

-- and one that does goes
pub gone_at : (ps : Pairs) (i : ℕ) (p : List ℕ × List ℕ) → i < length ps → p ≡ get_or ps i p → again ps i p ≡ true
    → each_once (drop i ps) ≡ each_once (drop (i + 1) ps)
gone_at ps i p lt is stands = by_head ps i p lt is ∙ ap (λ b. cond b (each_once (drop (i + 1) ps)) (p ∷ each_once (drop (i + 1) ps))) stands

-- with nothing repeated so far, a pair that does not stand again changes nothing
pub same_before : (ps : Pairs) (i : ℕ) (p : List ℕ × List ℕ) → i < length ps → p ≡ get_or ps i p → again ps i p ≡ false
    → each_once (drop (i + 1) ps) ≡ drop (i + 1) ps → each_once (drop i ps) ≡ drop i ps
same_before ps i p lt is none rest =
    kept_at ps i p lt is none ∙ ap (λ qs. p ∷ qs) rest ∙ sym (head ps i p lt is)
