-- A list that has as many numbers as there are, each once, has each of them.
use Rattle.std.proofs.Common.{◌≡◌, ◌↔◌, ℕ, zero, suc, ◌+◌, ◌<◌, ◌≤◌, List, [], ◌∷◌, length, refl, ap, sym, subst, arith, length-append}
use mathlib.Core.Logic.{dite}
use native.Mathlib.Decide.{ℕ_discrete, dec_le}
use Rattle.turn_desk.specs.Counts.{times}
use Rattle.turn_desk.specs.Views.{numbers, AreApart}
use Rattle.turn_desk.specs.Calls.{SeatFacts, IsWhole, all_numbers, HasEachNumber}
use Rattle.turn_desk.proofs.Totals.{bit_same, bit_other}

-- how many of a list are below m, number by number
abbrev upto : ℕ → List ℕ → ℕ
upto zero ns = 0
upto (suc m) ns = times m ns + upto m ns

upto_none : (m : ℕ) → upto m [] ≡ 0
upto_none zero = refl
upto_none (suc m) = omega (arith, upto_none m)

upto_above : (m x : ℕ) (ns : List ℕ) → m ≤ x → upto m (x ∷ ns) ≡ upto m ns
upto_above zero x ns le = refl
upto_above (suc m) x ns le = omega (arith, bit_other x m (λ e. omega arith), upto_above m x ns (omega arith))

upto_more : (m x : ℕ) (ns : List ℕ) → x < m → upto m (x ∷ ns) ≡ 1 + upto m ns
upto_more zero x ns lt = absurd (omega arith)
upto_more (suc m) x ns lt = dite (ℕ_discrete x m)
    (λ e. omega (arith, bit_same x m e, upto_above m x ns (omega arith)))
    (λ ne. omega (arith, bit_other x m ne, upto_more m x ns (omega arith)))

upto_length : (m : ℕ) (ns : List ℕ) → ((n : ℕ) → m ≤ n → times n ns ≡ 0) → upto m ns ≡ length ns
upto_length m [] below = upto_none m
upto_length m (x ∷ ns) below = dite (dec_le m x)
    (λ le. absurd (omega (arith, bit_same x x refl, below x le)))
    (λ lt. omega (arith, upto_more m x ns (omega arith), upto_length m ns (λ n le. omega (arith, below n le))))

upto_most : (m : ℕ) (ns : List ℕ) → ((n : ℕ) → times n ns ≤ 1) → upto m ns ≤ m
upto_most zero ns once = omega arith
upto_most (suc m) ns once = omega (arith, once m, upto_most m ns once)

upto_each : (m : ℕ) (ns : List ℕ) → ((n : ℕ) → n < m → times n ns ≡ 1) → upto m ns ≡ m
upto_each zero ns each = refl
upto_each (suc m) ns each = omega (arith, each m (omega arith), upto_each m ns (λ n lt. each n (omega arith)))

upto_full : (m : ℕ) (ns : List ℕ) → ((n : ℕ) → times n ns ≤ 1) → upto m ns ≡ m → (n : ℕ) → n < m → times n ns ≡ 1
upto_full zero ns once full n lt = absurd (omega arith)
upto_full (suc m) ns once full n lt = dite (ℕ_discrete n m)
    (λ e. subst (λ k. times k ns ≡ 1) (sym e) (omega (arith, once m, upto_most m ns once, full)))
    (λ ne. upto_full m ns once (omega (arith, once m, upto_most m ns once, full)) n (omega arith))

length_numbers : {E : Type 0} (ps : List (ℕ × List E)) → length (numbers ps) ≡ length ps
length_numbers [] = refl
length_numbers (p ∷ ps) = ap suc (length_numbers ps)

module _ {E B : Type 0} where
  length_all : (k : SeatFacts E B) → length (all_numbers k) ≡ 1 + length k.ended + length k.spare
  length_all k = omega (arith, length-append (numbers k.ended) k.spare, length_numbers k.ended)

  -- a seat has as many numbers as there are exactly where it has each
  pub whole_has_each : (k : SeatFacts E B) → AreApart k.seats (all_numbers k) → IsWhole k ↔ HasEachNumber k
  whole_has_each k apart = let count = upto_length k.seats (all_numbers k) (λ n. (apart n).1) in (
    (λ whole. upto_full k.seats (all_numbers k) (λ n. (apart n).0) (omega (arith, count, length_all k, whole))),
    (λ each. omega (arith, count, length_all k, upto_each k.seats (all_numbers k) each)),
  )
