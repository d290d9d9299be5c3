-- A text without the blanks at its ends.
use Rattle.std.proofs.Common.{◌≡◌, ℕ, ◌+◌, ◌-◌, ◌<◌, ◌≤◌, true, false, List, [], ◌∷◌, ◌++◌, length, take, get_or, refl, sym, ap, ◌∙◌, arith}
use Rattle.std.proofs.lemmas.Bool.Decides.{nat_tests}
use Rattle.std.proofs.lemmas.List.{take_more}
use Rattle.media_types.specs.Blanks.{is_blank, without_start, without_end, kept_before}

-- a blank is of ASCII
pub blank_is_ascii : (b : ℕ) → is_blank b ≡ true → b < 128
unfolding is_blank
blank_is_ascii b h = grind (arith, nat_tests)

-- the first byte goes where it is blank
pub without_start_blank : (b : ℕ) (text : List ℕ) → is_blank b ≡ true → without_start (b ∷ text) ≡ without_start text
without_start_blank b text h = rw h refl

pub without_start_other : (b : ℕ) (text : List ℕ) → is_blank b ≡ false → without_start (b ∷ text) ≡ b ∷ text
without_start_other b text h = rw h refl

-- and the last
without_end_blank : (text : List ℕ) (b : ℕ) → is_blank b ≡ true → without_end (text ++ b ∷ []) ≡ without_end text
without_end_blank [] b h = rw h refl
without_end_blank (c ∷ text) b h = ap (kept_before c) (without_end_blank text b h)

kept_before_more : (c : ℕ) (text : List ℕ) (b : ℕ) → kept_before c (text ++ b ∷ []) ≡ c ∷ (text ++ b ∷ [])
kept_before_more c [] b = refl
kept_before_more c (d ∷ text) b = refl

without_end_other : (text : List ℕ) (b : ℕ) → is_blank b ≡ false → without_end (text ++ b ∷ []) ≡ text ++ b ∷ []
without_end_other [] b h = rw h refl
without_end_other (c ∷ text) b h = ap (kept_before c) (without_end_other text b h) ∙ kept_before_more c text b

-- one byte less at the end of the front of a text
take_last : (text : List ℕ) (k : ℕ) → 0 < k → k ≤ length text → take k text ≡ take (k - 1) text ++ get_or text (k - 1) 0 ∷ []
take_last text k some fits =
    let e : k ≡ k - 1 + 1 = omega arith in
    let l : k - 1 < length text = omega arith in
    ap (λ (n : ℕ). take n text) e ∙ take_more text (k - 1) 0 l

pub end_blank : (text : List ℕ) (k : ℕ) → 0 < k → k ≤ length text → is_blank (get_or text (k - 1) 0) ≡ true → without_end (take (k - 1) text) ≡ without_end (take k text)
end_blank text k some fits h = sym (without_end_blank (take (k - 1) text) (get_or text (k - 1) 0) h) ∙ ap without_end (sym (take_last text k some fits))

pub end_other : (text : List ℕ) (k : ℕ) → 0 < k → k ≤ length text → is_blank (get_or text (k - 1) 0) ≡ false → take k text ≡ without_end (take k text)
end_other text k some fits h =
    take_last text k some fits ∙ sym (without_end_other (take (k - 1) text) (get_or text (k - 1) 0) h) ∙ ap without_end (sym (take_last text k some fits))

pub end_none : (text : List ℕ) (k : ℕ) → k ≤ 0 → take k text ≡ without_end (take k text)
end_none text k none = let e : k ≡ 0 = omega arith in rw e
