-- What stands where a text could not grow to its end.
use Rattle.std.proofs.Common.{◌≡◌, ℕ, ◌+◌, ◌<◌, ◌≤◌, List, [], ◌∷◌, ◌++◌, length, take, get_or, drop, ap, sym, ◌∙◌, append_assoc, arith, length-append}
use Rattle.std.specs.Prelude.{Result, Ok, Err, OnErr}
use Rattle.std.proofs.lemmas.List.{append-nil, take-append-le, length-take}
use Rattle.vtl_values.specs.Within.{HoldsFront}
use Rattle.vtl_values.proofs.Pieces.{turn}

front_fits : (u whole : List ℕ) → u ≡ take (length u) whole → length u ≤ length whole
front_fits u whole e = omega (arith, ap length e, length-take (length u) whole)

-- a front of a piece is one of the whole
pub front_same : (t0 t u more rest whole : List ℕ) → t ++ (more ++ rest) ≡ t0 ++ whole → length t0 ≤ length t → HoldsFront t u more → HoldsFront t0 u whole
front_same t0 t u more rest whole same longer h = record {
  longer = omega (arith, h.longer, longer);
  front = h.front
      ∙ sym (take-append-le (length u) (t ++ more) rest (front_fits u (t ++ more) h.front))
      ∙ ap (take (length u)) (append_assoc t more rest ∙ same);
}

pub front_within : (t0 t u before more rest whole : List ℕ) → t ≡ t0 ++ before → whole ≡ before ++ (more ++ rest) → HoldsFront t u more → HoldsFront t0 u whole
front_within t0 t u before more rest whole e w h =
    front_same t0 t u more rest whole
    (ap (λ z. z ++ (more ++ rest)) e ∙ append_assoc t0 before (more ++ rest) ∙ ap (λ z. t0 ++ z) (sym w))
    (omega (arith, ap length e, length-append t0 before))
    h

-- of a list of things, each written by one piece
pub turn_front : {X : Type 0} (F : List X → List ℕ) (f : X → List ℕ) (opens : (x : X) (xs : List X) → F (x ∷ xs) ≡ f x ++ F xs) (xs : List X) (i : ℕ) (x : X) (t u t0 : List ℕ) → i < length xs → x ≡ get_or xs i x → t ++ F (drop i xs) ≡ t0 ++ F xs → length t0 ≤ length t → HoldsFront t u (f x) → HoldsFront t0 u (F xs)
turn_front F f opens xs i x t u t0 h at same longer w =
    front_same t0 t u (f x) (F (drop (i + 1) xs)) (F xs) (ap (λ z. t ++ z) (sym (turn F f opens xs i x h at)) ∙ same) longer w

-- for a call that was refused
pub refused : {X E P : Type 0} (r : Result X E) → P → OnErr r P
refused (Ok x) p = tt
refused (Err e) p = p

-- the last piece of the whole
pub last_front : {X E : Type 0} (t0 t u before more whole : List ℕ) (r : Result X E) → t ≡ t0 ++ before → whole ≡ before ++ more → OnErr r (HoldsFront t u more) → OnErr r (HoldsFront t0 u whole)
last_front t0 t u before more whole (Ok x) e w h = tt
last_front t0 t u before more whole (Err x) e w h = front_within t0 t u before more [] whole e (w ∙ ap (λ z. before ++ z) (sym (append-nil more))) h
