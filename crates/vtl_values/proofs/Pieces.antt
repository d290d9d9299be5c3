-- Texts that grow piece by piece.
use Rattle.std.proofs.Common.{◌≡◌, ℕ, ◌+◌, ◌<◌, ◌≤◌, List, [], ◌∷◌, ◌++◌, length, get_or, drop, sym, ap, ◌∙◌, append_assoc, arith, length-append}
use Rattle.std.specs.Prelude.{Err}
use Rattle.std.proofs.lemmas.List.{append-nil, at_drop_more}
use Rattle.vtl_values.specs.Within.{Writes}
use Rattle.vtl_values.specs.declared.lack.Lack.{Lack}
use Rattle.vtl_values.specs.declared.lack.Lack.TheVariants.{Room, Memory}

-- what is lacking for a piece is lacking for the whole
pub lacking : (most : ℕ) (t u t0 front rest whole : List ℕ) (e : Lack) → Writes most t u front (Err e) → t ++ (front ++ rest) ≡ t0 ++ whole → Writes most t0 u whole (Err e)
lacking most t u t0 front rest whole Room h same =
    let q : length (t ++ (front ++ rest)) ≡ length (t0 ++ whole) = ap length same in
    omega (arith, h, q, length-append t (front ++ rest), length-append front rest, length-append t0 whole)
lacking most t u t0 front rest whole Memory h same = tt

pub next_piece : (t u t0 front rest whole : List ℕ) → u ≡ t ++ front → t ++ (front ++ rest) ≡ t0 ++ whole → u ++ rest ≡ t0 ++ whole
next_piece t u t0 front rest whole e same = ap (λ z. z ++ rest) e ∙ append_assoc t front rest ∙ same

pub still_fits : (most : ℕ) (t u front : List ℕ) → u ≡ t ++ front → length t + length front ≤ most → length u ≤ most
still_fits most t u front e h =
    let q : length u ≡ length (t ++ front) = ap length e in
    omega (arith, h, q, length-append t front)

-- what is left to write of a list of things, each by one piece
module _ {X : Type 0} (F : List X → List ℕ) (f : X → List ℕ) (opens : (x : X) (xs : List X) → F (x ∷ xs) ≡ f x ++ F xs) where
  pub turn : (xs : List X) (i : ℕ) (x : X) → i < length xs → x ≡ get_or xs i x → F (drop i xs) ≡ f x ++ F (drop (i + 1) xs)
  turn xs i x h e = at_drop_more F xs i x h ∙ ap (λ z. F (z ∷ drop (i + 1) xs)) (sym e) ∙ opens x (drop (i + 1) xs)

  pub turn_lacks : (most : ℕ) (xs : List X) (i : ℕ) (x : X) (t u t0 : List ℕ) (e : Lack) → i < length xs → x ≡ get_or xs i x → t ++ F (drop i xs) ≡ t0 ++ F xs → Writes most t u (f x) (Err e) → Writes most t0 u (F xs) (Err e)
  turn_lacks most xs i x t u t0 e h at same w = lacking most t u t0 (f x) (F (drop (i + 1) xs)) (F xs) e w (ap (λ z. t ++ z) (sym (turn xs i x h at)) ∙ same)

  pub turn_goes : (xs : List X) (i : ℕ) (x : X) (t u t0 : List ℕ) → i < length xs → x ≡ get_or xs i x → t ++ F (drop i xs) ≡ t0 ++ F xs → u ≡ t ++ f x → u ++ F (drop (i + 1) xs) ≡ t0 ++ F xs
  turn_goes xs i x t u t0 h at same w = next_piece t u t0 (f x) (F (drop (i + 1) xs)) (F xs) w (ap (λ z. t ++ z) (sym (turn xs i x h at)) ∙ same)

pub finished : (most : ℕ) (t t0 rest whole : List ℕ) → t ++ rest ≡ t0 ++ whole → rest ≡ [] → length t ≤ most → (t ≡ t0 ++ whole) × (length t0 + length whole ≤ most)
finished most t t0 rest whole same none h =
    let e : t ≡ t0 ++ whole = sym (append-nil t) ∙ ap (λ z. t ++ z) (sym none) ∙ same in
    let q : length t ≡ length (t0 ++ whole) = ap length e in
    (e, omega (arith, h, q, length-append t0 whole))
