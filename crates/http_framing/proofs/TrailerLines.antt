-- The length of trailers is found just where trailers stand.
use Rattle.std.proofs.Common.{arith, ◌≡◌, ◌≢◌, ℕ, ◌+◌, ◌⊎◌, inl, inr, true, false, ◌&&◌, ◌==◌, not, List, [], ◌∷◌, ◌++◌, length, refl, sym, ap, ◌∙◌, append_assoc, Some, None, if◌then◌else◌}
use Rattle.std.proofs.lemmas.Bool.{and_from}
use Rattle.std.proofs.lemmas.Bool.Decides.{nat_tests}
use Rattle.std.proofs.lemmas.List.{length-append}
use Rattle.std.specs.List.{AllByRecursion, flat_map, list_all}
use Rattle.httparse.specs.Grammar.{LineEnd, crlf, lf, print_end}
use Rattle.http_framing.specs.Chunks.{trailers_from}
use Rattle.http_framing.specs.Trailers.{IsTrailer, spelled_lines, AreTrailers, HasTrailers, FindsTrailers}
use Rattle.http_framing.specs.declared.trailers.Spot.{Spot}
use Rattle.http_framing.specs.declared.trailers.Spot.TheVariants.{Fresh, Returned, Inside}

-- bytes without a line feed
abbrev Plain : List ℕ → Type 0
Plain bs = list_all (λ b. not (b == 10)) bs ≡ true

-- what is found from a place in a line on
abbrev Found : Spot → ℕ → List ℕ → ℕ → Type 0
Found Fresh at bs n = (trail : List ℕ) × (rest : List ℕ) × AreTrailers trail × (bs ≡ trail ++ rest) × (n ≡ at + length trail)
Found Inside at bs n = (head : List ℕ) × (trail : List ℕ) × (rest : List ℕ) × Plain head × AreTrailers trail × (bs ≡ head ++ 10 ∷ (trail ++ rest)) × (n ≡ at + length head + 1 + length trail)
Found Returned at bs n =
    ((rest : List ℕ) × (bs ≡ 10 ∷ rest) × (n ≡ at + 1))
    ⊎ ((b : ℕ) × (head : List ℕ) × (trail : List ℕ) × (rest : List ℕ) × Plain (b ∷ head) × AreTrailers trail × (bs ≡ b ∷ (head ++ 10 ∷ (trail ++ rest))) × (n ≡ at + length head + 2 + length trail))

ten : (b c : ℕ) → (b == c) ≡ true → b ≡ c
ten b c t = grind (arith, nat_tests)

plain_more : (b : ℕ) (bs : List ℕ) → (b == 10) ≡ false → Plain bs → Plain (b ∷ bs)
plain_more b bs e h = and_from _ _ (ap not e) h

some_is : (a b : ℕ) → Some a ≡ Some b → a ≡ b
some_is a b e = cc

none_is : (n : ℕ) → None ≡ Some n → ⊥
none_is n e = cc

-- one line more
line_more : (line trail : List ℕ) → IsTrailer line → AreTrailers trail → AreTrailers ((line ++ 10 ∷ []) ++ trail)
line_more line trail is (lines, last, all, e) =
    (line ∷ lines, last, (is, all), ap (λ l. (line ++ 10 ∷ []) ++ l) e ∙ sym (append_assoc (line ++ 10 ∷ []) (flat_map (λ l. l ++ 10 ∷ []) lines) (print_end last)))

spread : (line trail rest : List ℕ) → line ++ 10 ∷ (trail ++ rest) ≡ ((line ++ 10 ∷ []) ++ trail) ++ rest
spread line trail rest = sym (append_assoc line (10 ∷ []) (trail ++ rest)) ∙ sym (append_assoc (line ++ 10 ∷ []) trail rest)

long : (line trail : List ℕ) (at n : ℕ) → n ≡ at + length line + 1 + length trail → n ≡ at + length ((line ++ 10 ∷ []) ++ trail)
long line trail at n e = omega (arith, e, length-append (line ++ 10 ∷ []) trail, length-append line (10 ∷ []))

not_empty : (b : ℕ) (bs : List ℕ) → b ∷ bs ≢ []
not_empty b bs e = cc

not_return : (b : ℕ) (bs : List ℕ) → (b == 13) ≡ false → b ∷ bs ≢ 13 ∷ []
not_return b bs e same = let is : b ≡ 13 = cc in absurd (grind (arith, nat_tests))

not_alone : (b c : ℕ) (bs : List ℕ) → b ∷ (c ∷ bs) ≢ 13 ∷ []
not_alone b c bs e = cc

sound : (bs : List ℕ) (at : ℕ) (spot : Spot) (n : ℕ) → trailers_from at spot bs ≡ Some n → Found spot at bs n
sound [] at spot n h = absurd (none_is n h)
sound (b ∷ bs) at Fresh n h = (elim (b == 10) as (λ t. (b == 10) ≡ t → (if t then Some (at + 1) else if b == 13 then trailers_from (at + 1) Returned bs else trailers_from (at + 1) Inside bs) ≡ Some n → Found Fresh at (b ∷ bs) n) [
  | true ↦ λ t g. (10 ∷ [], bs, ([], lf, tt, refl), ap (λ x. x ∷ bs) (ten b 10 t), sym (some_is (at + 1) n g))
  | false ↦ λ t. (elim (b == 13) as (λ u. (b == 13) ≡ u → (if u then trailers_from (at + 1) Returned bs else trailers_from (at + 1) Inside bs) ≡ Some n → Found Fresh at (b ∷ bs) n) [
    | true ↦ λ u g. (elim (sound bs (at + 1) Returned n g) [
      | inl (rest, e, is) ↦ (13 ∷ 10 ∷ [], rest, ([], crlf, tt, refl), ap (λ x. x ∷ bs) (ten b 13 u) ∙ ap (λ l. 13 ∷ l) e, omega (arith, is))
      | inr (c, head, trail, rest, plain, are, e, is) ↦ (
        ((13 ∷ c ∷ head) ++ 10 ∷ []) ++ trail,
        rest,
        line_more (13 ∷ c ∷ head) trail (plain_more 13 (c ∷ head) refl plain, not_empty 13 (c ∷ head), not_alone 13 c head) are,
        ap (λ x. x ∷ bs) (ten b 13 u) ∙ ap (λ l. 13 ∷ l) e ∙ spread (13 ∷ c ∷ head) trail rest,
        long (13 ∷ c ∷ head) trail at n (omega (arith, is)),
      )
    ])
    | false ↦ λ u g. let (head, trail, rest, plain, are, e, is) = sound bs (at + 1) Inside n g in (
      ((b ∷ head) ++ 10 ∷ []) ++ trail,
      rest,
      line_more (b ∷ head) trail (plain_more b head t plain, not_empty b head, not_return b head u) are,
      ap (λ l. b ∷ l) e ∙ spread (b ∷ head) trail rest,
      long (b ∷ head) trail at n (omega (arith, is)),
    )
  ]) refl
]) refl h
sound (b ∷ bs) at Returned n h = (elim (b == 10) as (λ t. (b == 10) ≡ t → (if t then Some (at + 1) else trailers_from (at + 1) Inside bs) ≡ Some n → Found Returned at (b ∷ bs) n) [
  | true ↦ λ t g. inl (bs, ap (λ x. x ∷ bs) (ten b 10 t), sym (some_is (at + 1) n g))
  | false ↦ λ t g. let found = sound bs (at + 1) Inside n g in
      inr (b, found.0, found.1, found.2, plain_more b found.0 t found.3, found.4, ap (λ l. b ∷ l) found.5, omega (arith, found.6))
]) refl h
sound (b ∷ bs) at Inside n h = (elim (b == 10) as (λ t. (b == 10) ≡ t → (if t then trailers_from (at + 1) Fresh bs else trailers_from (at + 1) Inside bs) ≡ Some n → Found Inside at (b ∷ bs) n) [
  | true ↦ λ t g. let found = sound bs (at + 1) Fresh n g in
      ([], found.0, found.1, refl, found.2, ap (λ x. x ∷ bs) (ten b 10 t) ∙ ap (λ l. 10 ∷ l) found.3, omega (arith, found.4))
  | false ↦ λ t g. let found = sound bs (at + 1) Inside n g in
      (b ∷ found.0, found.1, found.2, plain_more b found.0 t found.3, found.4, ap (λ l. b ∷ l) found.5, omega (arith, found.6))
]) refl h

-- ---- and back

no_ten : (b : ℕ) (bs : List ℕ) → Plain (b ∷ bs) → (b == 10) ≡ false
no_ten b bs h = (elim (b == 10) as (λ t. (not t && list_all (λ c. not (c == 10)) bs) ≡ true → t ≡ false) [
  | true ↦ λ g. absurd (cc)
  | false ↦ λ g. refl
]) h

plain_rest : (b : ℕ) (bs : List ℕ) → Plain (b ∷ bs) → Plain bs
plain_rest b bs h = (elim (not (b == 10)) as (λ t. (t && list_all (λ c. not (c == 10)) bs) ≡ true → Plain bs) [
  | true ↦ λ g. g
  | false ↦ λ g. absurd (cc)
]) h

moved : (a b : ℕ) (spot : Spot) (bs : List ℕ) → a ≡ b → trailers_from a spot bs ≡ trailers_from b spot bs
moved a b spot bs e = ap (λ n. trailers_from n spot bs) e

inside_line : (bs tail : List ℕ) (at : ℕ) → Plain bs → trailers_from at Inside (bs ++ 10 ∷ tail) ≡ trailers_from (at + length bs + 1) Fresh tail
inside_line [] tail at h = moved (at + 1) (at + 0 + 1) Fresh tail (omega arith)
inside_line (b ∷ bs) tail at h =
    rw (no_ten b bs h) (inside_line bs tail (at + 1) (plain_rest b bs h) ∙ moved (at + 1 + length bs + 1) (at + length (b ∷ bs) + 1) Fresh tail (omega arith))

fresh_line : (line tail : List ℕ) (at : ℕ) → IsTrailer line → trailers_from at Fresh (line ++ 10 ∷ tail) ≡ trailers_from (at + length line + 1) Fresh tail
fresh_line [] tail at (plain, some, other) = absurd (some refl)
fresh_line (b ∷ []) tail at (plain, some, other) = (elim (b == 13) as (λ u. (b == 13) ≡ u → (if b == 10 then Some (at + 1) else if u then trailers_from (at + 1) Returned (10 ∷ tail) else trailers_from (at + 1) Inside (10 ∷ tail)) ≡ trailers_from (at + 1 + 1) Fresh tail) [
  | true ↦ λ u. absurd (other (ap (λ x. x ∷ []) (ten b 13 u)))
  | false ↦ λ u. rw (no_ten b [] plain) refl
]) refl
fresh_line (b ∷ c ∷ bs) tail at (plain, some, other) =
    let inner : Plain (c ∷ bs) = plain_rest b (c ∷ bs) plain in
    let gone : trailers_from (at + 1) Inside ((c ∷ bs) ++ 10 ∷ tail) ≡ trailers_from (at + length (b ∷ c ∷ bs) + 1) Fresh tail = inside_line (c ∷ bs) tail (at + 1) inner ∙ moved (at + 1 + length (c ∷ bs) + 1) (at + length (b ∷ c ∷ bs) + 1) Fresh tail (omega arith) in
    (elim (b == 13) as (λ u. (if b == 10 then Some (at + 1) else if u then trailers_from (at + 1) Returned ((c ∷ bs) ++ 10 ∷ tail) else trailers_from (at + 1) Inside ((c ∷ bs) ++ 10 ∷ tail)) ≡ trailers_from (at + length (b ∷ c ∷ bs) + 1) Fresh tail) [
      | true ↦ rw (no_ten b (c ∷ bs) plain, no_ten c bs inner) (inside_line bs tail (at + 1 + 1) (plain_rest c bs inner) ∙ moved (at + 1 + 1 + length bs + 1) (at + length (b ∷ c ∷ bs) + 1) Fresh tail (omega arith))
      | false ↦ rw (no_ten b (c ∷ bs) plain) gone
    ])

scan_lines : (lines : List (List ℕ)) (last : LineEnd) (rest : List ℕ) (at : ℕ) → AllByRecursion IsTrailer lines → trailers_from at Fresh (spelled_lines lines last ++ rest) ≡ Some (at + length (spelled_lines lines last))
scan_lines [] crlf rest at all = let e : at + 1 + 1 ≡ at + 2 = omega arith in ap (λ n. Some n) e
scan_lines [] lf rest at all = refl
scan_lines (line ∷ lines) last rest at (is, all) =
    let more = spelled_lines lines last in
    let whole : spelled_lines (line ∷ lines) last ++ rest ≡ line ++ 10 ∷ (more ++ rest) = ap (λ l. l ++ rest) (append_assoc (line ++ 10 ∷ []) (flat_map (λ l. l ++ 10 ∷ []) lines) (print_end last)) ∙ sym (spread line more rest) in
    let size : at + length line + 1 + length more ≡ at + length (spelled_lines (line ∷ lines) last) =
    omega (arith, ap length (append_assoc (line ++ 10 ∷ []) (flat_map (λ l. l ++ 10 ∷ []) lines) (print_end last)), length-append (line ++ 10 ∷ []) more, length-append line (10 ∷ [])) in
    ap (λ l. trailers_from at Fresh l) whole ∙ fresh_line line (more ++ rest) at is ∙ scan_lines lines last rest (at + length line + 1) all ∙ ap (λ n. Some n) size

complete : (bytes : List ℕ) (n : ℕ) → HasTrailers bytes n → trailers_from 0 Fresh bytes ≡ Some n
complete bytes n (trail, rest, (lines, last, all, e), whole, size) =
    let sum : 0 + length (spelled_lines lines last) ≡ n = omega (arith, size, ap length e) in
    ap (λ l. trailers_from 0 Fresh l) (whole ∙ ap (λ l. l ++ rest) e) ∙ scan_lines lines last rest 0 all ∙ ap (λ m. Some m) sum

pub finds_trailers : FindsTrailers
finds_trailers bytes n = (
  λ h. let found = sound bytes 0 Fresh n h in (found.0, found.1, found.2, found.3, omega (arith, found.4)),
  λ h. complete bytes n h,
)
