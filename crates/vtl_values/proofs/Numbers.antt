-- The numbers of a range.
use Rattle.std.proofs.Common.{◌≡◌, ℕ, zero, suc, ◌+◌, ◌-◌, ◌<◌, ◌≤◌, ℤ, pos, negsuc, ◌+ℤ◌, ◌-ℤ◌, Bool, true, false, List, [], ◌∷◌, ◌++◌, map, codes, sym, ap, ◌∙◌, arith, length, length-append}
use Rattle.std.specs.Prelude.{int_lt, if◌then◌else◌}
use Rattle.std.proofs.lemmas.Int.{ints}
use Rattle.std.specs.Fmt.{signed_decimal}
use Rattle.vtl_values.specs.Printed.{more, joined}
use Rattle.vtl_values.specs.Ranges.{counted, toward, distance, numbered, span}

-- a range counts down by 1, or up
pub numbered_next : (first last : ℤ) (n : ℕ) → numbered first last (n + 1) ≡ numbered first last n +ℤ toward first last
numbered_next first last n = go (int_lt last first)
  where
    go : (b : Bool) → (if b then first -ℤ pos (n + 1) else first +ℤ pos (n + 1)) ≡ (if b then first -ℤ pos n else first +ℤ pos n) +ℤ (if b then negsuc 0 else pos 1)
    go true = omega (arith, ints)
    go false = omega (arith, ints)

pub numbered_first : (first last : ℤ) → numbered first last 0 ≡ first
numbered_first first last = go (int_lt last first)
  where
    go : (b : Bool) → (if b then first -ℤ pos 0 else first +ℤ pos 0) ≡ first
    go true = omega (arith, ints)
    go false = omega (arith, ints)

pub counted_more : (by a : ℤ) (n k : ℕ) → n ≡ k + 1 → counted by a n ≡ a ∷ counted by (a +ℤ by) k
counted_more by a n k e = ap (counted by a) (let q : n ≡ suc k = omega (arith, e) in q)

-- what is written of a range behind its first i + 1 numbers
abbrev pub rest : ℤ → ℤ → ℕ → List ℕ
rest first last i = more (map signed_decimal (counted (toward first last) (numbered first last (i + 1)) (distance first last - i)))

pub rest_more : (first last : ℤ) (i : ℕ) → i < distance first last → rest first last i ≡ (codes ", " ++ signed_decimal (numbered first last (i + 1))) ++ rest first last (i + 1)
rest_more first last i h =
    ap (λ z. more (map signed_decimal z)) (counted_more (toward first last) (numbered first last (i + 1)) (distance first last - i) (distance first last - (i + 1)) (omega (arith, h)))
    ∙ ap (λ z. (codes ", " ++ signed_decimal (numbered first last (i + 1))) ++ more (map signed_decimal (counted (toward first last) z (distance first last - (i + 1))))) (sym (numbered_next first last (i + 1)))

pub rest_first : (first last : ℤ) → rest first last 0 ≡ more (map signed_decimal (counted (toward first last) (first +ℤ toward first last) (distance first last)))
rest_first first last =
    let one : numbered first last 1 ≡ first +ℤ toward first last = numbered_next first last 0 ∙ ap (λ z. z +ℤ toward first last) (numbered_first first last) in
    let all : distance first last - 0 ≡ distance first last = omega arith in
    ap (λ z. more (map signed_decimal (counted (toward first last) z (distance first last - 0)))) one
    ∙ ap (λ n. more (map signed_decimal (counted (toward first last) (first +ℤ toward first last) n))) all

pub rest_last : (first last : ℤ) (i : ℕ) → distance first last ≤ i → rest first last i ≡ []
rest_last first last i h =
    let none : distance first last - i ≡ 0 = omega (arith, h) in
    ap (λ n. more (map signed_decimal (counted (toward first last) (numbered first last (i + 1)) n))) none

-- one more number of a range, and its end, where the code's numbers are those of the range
pub range_turn : (f l g m n : ℤ) (i : ℕ) → g ≡ f → m ≡ l → n ≡ numbered g m (i + 1) → i < distance g m → rest g m i ≡ (codes ", " ++ signed_decimal n) ++ rest g m (i + 1)
range_turn f l g m n i eg em en h = rest_more g m i h ∙ ap (λ z. (codes ", " ++ signed_decimal z) ++ rest g m (i + 1)) (sym en)

pub rest_whole : (f l g m : ℤ) → g ≡ f → m ≡ l → rest g m 0 ≡ more (map signed_decimal (counted (toward f l) (f +ℤ toward f l) (distance f l)))
rest_whole f l g m eg em = ap (λ z. rest z m 0) eg ∙ ap (λ z. rest f z 0) em ∙ rest_first f l

counted_takes : (by a : ℤ) (n : ℕ) → n ≤ length (more (map signed_decimal (counted by a n)))
counted_takes by a zero = omega arith
counted_takes by a (suc n) = omega (arith, counted_takes by (a +ℤ by) n, length-append (codes ", " ++ signed_decimal a) (more (map signed_decimal (counted by (a +ℤ by) n))), length-append (codes ", ") (signed_decimal a))

-- a range takes a byte for each number behind its first
pub span_takes : (first last : ℤ) → distance first last ≤ length (joined (map signed_decimal (span first last)))
unfolding span
span_takes first last =
    omega (
      arith,
      counted_takes (toward first last) (first +ℤ toward first last) (distance first last),
      length-append (signed_decimal first) (more (map signed_decimal (counted (toward first last) (first +ℤ toward first last) (distance first last)))),
    )
