-- Where a text that is UTF-8 may be cut.
use Rattle.std.proofs.Common.{◌≡◌, ℕ, ◌-◌, ◌<◌, ◌≤◌, List, [], ◌∷◌, ◌++◌, length, take, drop, get_or, sym, ap, ◌∙◌, subst, arith, length-append}
use Rattle.std.specs.Str.{IsUtf8}
use Rattle.std.proofs.Math.Seq.{take-length, take-append_seam, drop-append_seam, get_or-append_seam}
use Rattle.std.proofs.lemmas.Str.{IsUtf8-take, IsUtf8-drop, IsCharBoundary-before_ascii, IsCharBoundary-after_ascii}

pub utf8_tail : (b : ℕ) (bs : List ℕ) → b < 128 → IsUtf8 (b ∷ bs) → IsUtf8 bs
utf8_tail b bs h u = IsUtf8-drop (b ∷ bs) 1 u (IsCharBoundary-after_ascii (b ∷ bs) 0 u (omega arith) h)

-- what a slice pattern binds behind an ASCII byte
pub utf8_behind : (bs : List ℕ) → 1 ≤ length bs → get_or bs 0 0 < 128 → IsUtf8 bs → IsUtf8 (take (length bs - 1) (drop 1 bs))
utf8_behind [] h i u = absurd (omega (arith, h))
utf8_behind (b ∷ bs) h i u =
    let e : length (b ∷ bs) - 1 ≡ length bs = omega arith in
    let P : List ℕ → Type 0 = IsUtf8 in
    subst P (sym (take-length bs) ∙ ap (λ k. take k bs) (sym e)) (utf8_tail b bs i u)

pub pattern_is : (bs : List ℕ) (b : ℕ) → 1 ≤ length bs → get_or bs 0 0 ≡ b → bs ≡ b ∷ take (length bs - 1) (drop 1 bs)
pattern_is [] b h e = absurd (omega (arith, h))
pattern_is (c ∷ bs) b h e =
    let k : length (c ∷ bs) - 1 ≡ length bs = omega arith in
    ap (λ z. z ∷ bs) e ∙ ap (λ z. b ∷ z) (sym (take-length bs) ∙ ap (λ j. take j bs) (sym k))

-- before an ASCII byte
pub utf8_front : (xs : List ℕ) (b : ℕ) (ys : List ℕ) → b < 128 → IsUtf8 (xs ++ b ∷ ys) → IsUtf8 xs
utf8_front xs b ys h u =
    let at : get_or (xs ++ b ∷ ys) (length xs) 0 < 128 = (let e = get_or-append_seam xs b ys 0 in omega (arith, e, h)) in
    let within : length xs < length (xs ++ b ∷ ys) = simp length-append (omega arith) in
    let P : List ℕ → Type 0 = IsUtf8 in
    subst P (take-append_seam xs (b ∷ ys)) (IsUtf8-take (xs ++ b ∷ ys) (length xs) u (IsCharBoundary-before_ascii (xs ++ b ∷ ys) (length xs) within at))

pub utf8_back : (xs : List ℕ) (b : ℕ) (ys : List ℕ) → b < 128 → IsUtf8 (xs ++ b ∷ ys) → IsUtf8 ys
utf8_back xs b ys h u =
    let at : get_or (xs ++ b ∷ ys) (length xs) 0 < 128 = (let e = get_or-append_seam xs b ys 0 in omega (arith, e, h)) in
    let within : length xs < length (xs ++ b ∷ ys) = simp length-append (omega arith) in
    let P : List ℕ → Type 0 = IsUtf8 in
    utf8_tail b ys h (subst P (drop-append_seam xs (b ∷ ys)) (IsUtf8-drop (xs ++ b ∷ ys) (length xs) u (IsCharBoundary-before_ascii (xs ++ b ∷ ys) (length xs) within at)))
