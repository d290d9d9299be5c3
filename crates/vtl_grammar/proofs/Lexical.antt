-- What lexical words take from the front of a text.
use Rattle.std.proofs.Common.{◌≡◌, ℕ, suc, ◌+◌, ◌<◌, ◌≤◌, List, [], ◌∷◌, length, drop, refl, sym, ap, arith, Bool, true, false, true≢false, ◌||◌, Option, Some, None, Result, Ok, Err, if◌then◌else◌, eqb-true, length-drop, ◌==◌, bytes_eq}
use Rattle.vtl_grammar.specs.declared.fault.Fault.{Fault}
use Rattle.vtl_grammar.specs.Bytes.{is_letter, is_digit, is_name, is_white, is_blank, front_len, skip, white, blanks, parted, name_at, taken, after, until_byte, more_before, whole_word}
use Rattle.vtl_grammar.specs.Faults.{Read, bad}

-- a choice is no larger than both
pub pick_le : {A : Type 0} (m : A → ℕ) (t : Bool) (a b : A) (n : ℕ) → m a ≤ n → m b ≤ n → m (elim t as (λ _. A) [ true ↦ a | false ↦ b ]) ≤ n
pick_le m true a b n h k = h
pick_le m false a b n h k = k

pub if_le : {A : Type 0} (m : A → ℕ) (t : Bool) (a b : A) (n : ℕ) → m a ≤ n → m b ≤ n → m (if t then a else b) ≤ n
if_le m true a b n h k = h
if_le m false a b n h k = k

-- how many bytes stand from the last one that was read on, where something was read
abbrev pub sized : {A : Type 0} → Option (A × List ℕ) → ℕ
sized None = 0
sized (Some p) = length p.1 + 1

abbrev pub read_size : {A : Type 0} → Read A → ℕ
read_size (Ok r) = length r.1 + 1
read_size (Err f) = 0

abbrev pub list_left : Result (List ℕ) Fault → ℕ
list_left (Ok r) = length r
list_left (Err f) = 0

abbrev pub word_size : Option (List ℕ) → ℕ
word_size None = 0
word_size (Some r) = length r + 1

-- bytes that are passed over
pub skip_le : (p : ℕ → Bool) (bs : List ℕ) → length (skip p bs) ≤ length bs
skip_le p [] = omega arith
skip_le p (b ∷ bs) = pick_le (λ z. length {A = ℕ} z) (p b) (skip p bs) (b ∷ bs) (length (b ∷ bs)) (omega (arith, skip_le p bs)) (omega arith)

pub white_le : (bs : List ℕ) → length (white bs) ≤ length bs
white_le bs = skip_le is_white bs

pub blanks_le : (bs : List ℕ) → length (blanks bs) ≤ length bs
blanks_le bs = skip_le is_blank bs

taken_if : (c b : ℕ) (bs rest : List ℕ) (t : Bool) → (b == c) ≡ t → (elim t as (λ _. Bool × List ℕ) [ true ↦ (true, bs) | false ↦ (false, b ∷ bs) ]) ≡ (true, rest) → b ∷ bs ≡ c ∷ rest
taken_if c b bs rest true h e = let x : bs ≡ rest = ap (λ p. p.1) e in let y : b ≡ c = eqb-true b c h in cc
taken_if c b bs rest false h e = absurd (true≢false (sym (ap (λ p. p.0) e)))

-- the byte that was taken stood at the front
pub taken_true : (c : ℕ) (bs : List ℕ) {rest : List ℕ} → taken c bs ≡ (true, rest) → bs ≡ c ∷ rest
taken_true c [] e = absurd (true≢false (sym (ap (λ p. p.0) e)))
taken_true c (b ∷ bs) {rest = rest} e = taken_if c b bs rest (b == c) refl e

not_if : (b : ℕ) (bs rest : List ℕ) (t : Bool) → (elim t as (λ _. Bool × List ℕ) [ true ↦ (true, bs) | false ↦ (false, b ∷ bs) ]) ≡ (false, rest) → b ∷ bs ≡ rest
not_if b bs rest true e = absurd (true≢false (ap (λ p. p.0) e))
not_if b bs rest false e = ap (λ p. p.1) e

-- nothing is taken of another
pub taken_false : (c : ℕ) (bs : List ℕ) {rest : List ℕ} → taken c bs ≡ (false, rest) → bs ≡ rest
taken_false c [] e = ap (λ p. p.1) e
taken_false c (b ∷ bs) {rest = rest} e = not_if b bs rest (b == c) e

pub taken_less : (c : ℕ) (bs : List ℕ) {rest : List ℕ} → taken c bs ≡ (true, rest) → length rest < length bs
taken_less c bs {rest = rest} e = let h : length bs ≡ length (c ∷ rest) = ap (λ z. length {A = ℕ} z) (taken_true c bs e) in omega (arith, h)

pub taken_same : (c : ℕ) (bs : List ℕ) {rest : List ℕ} → taken c bs ≡ (false, rest) → length rest ≤ length bs
taken_same c bs {rest = rest} e = let h : length bs ≡ length rest = ap (λ z. length {A = ℕ} z) (taken_false c bs e) in omega (arith, h)

pub taken_le : (c : ℕ) (bs : List ℕ) → length (taken c bs).1 ≤ length bs
taken_le c [] = omega arith
taken_le c (b ∷ bs) = pick_le {A = Bool × List ℕ} (λ z. length z.1) (b == c) (true, bs) (false, b ∷ bs) (length (b ∷ bs)) (omega arith) (omega arith)

-- a run of bytes that is not empty
pub front_drop : (p : ℕ → Bool) (b : ℕ) (bs : List ℕ) → p b ≡ true → length (drop (front_len p (b ∷ bs)) (b ∷ bs)) + 1 ≤ length (b ∷ bs)
front_drop p b bs h =
    let n : front_len p (b ∷ bs) ≡ suc (front_len p bs) = ap (λ t. elim t as (λ _. ℕ) [ true ↦ suc (front_len p bs) | false ↦ 0 ]) h in
    omega (arith, n, length-drop (front_len p (b ∷ bs)) (b ∷ bs))

named_if : (t : Bool) (b : ℕ) (bs : List ℕ) → is_letter b ≡ t → sized (elim t as (λ _. Option (List ℕ × List ℕ)) [ true ↦ Some (parted is_name (b ∷ bs)) | false ↦ None ]) ≤ length (b ∷ bs)
named_if true b bs h = front_drop is_name b bs (ap (λ z. z || is_digit b || (b == 45) || (b == 95)) h)
named_if false b bs h = omega arith

pub name_le : (bs : List ℕ) → sized (name_at bs) ≤ length bs
name_le [] = omega arith
name_le (b ∷ bs) = named_if (is_letter b) b bs refl

pub before_le : (b n : ℕ) (o : Option (List ℕ × List ℕ)) → sized o ≤ n → sized (more_before b o) ≤ n + 1
before_le b n None h = omega arith
before_le b n (Some p) h = omega (arith, h)

pub until_le : (c : ℕ) (bs : List ℕ) → sized (until_byte c bs) ≤ length bs
until_le c [] = omega arith
until_le c (b ∷ bs) = pick_le {A = Option (List ℕ × List ℕ)} (λ z. sized z) (b == c) (Some ([], bs)) (more_before b (until_byte c bs)) (length (b ∷ bs)) (omega arith) (omega (arith, before_le b (length bs) (until_byte c bs) (until_le c bs)))

pub until_less : (c : ℕ) (bs : List ℕ) {held rest : List ℕ} → until_byte c bs ≡ Some (held, rest) → length rest < length bs
until_less c bs {held = held} {rest = rest} e = let h : sized (until_byte c bs) ≡ sized (Some (held, rest)) = ap (λ z. sized z) e in omega (arith, h, until_le c bs)

whole_if : (w : List ℕ) (o : Option (List ℕ × List ℕ)) → word_size (elim o as (λ _. Option (List ℕ)) [ None ↦ None | Some p ↦ elim (bytes_eq p.0 w) [ true ↦ Some p.1 | false ↦ None ] ]) ≤ sized o
whole_if w None = omega arith
whole_if w (Some p) = pick_le {A = Option (List ℕ)} (λ z. word_size z) (bytes_eq p.0 w) (Some p.1) None (length p.1 + 1) (omega arith) (omega arith)

pub whole_less : (w bs : List ℕ) {rest : List ℕ} → whole_word w bs ≡ Some rest → length rest < length bs
whole_less w bs {rest = rest} e = let h : word_size (whole_word w bs) ≡ word_size (Some rest) = ap (λ z. word_size z) e in omega (arith, h, whole_if w (name_at bs), name_le bs)

pub bad_size : (A : Type 0) (bs : List ℕ) (n : ℕ) → read_size {A = A} (bad bs) ≤ n
bad_size A [] n = omega arith
bad_size A (b ∷ bs) n = omega arith

pub bad_left : (bs : List ℕ) (n : ℕ) → list_left (bad bs) ≤ n
bad_left [] n = omega arith
bad_left (b ∷ bs) n = omega arith

pub after_le : (w bs : List ℕ) → word_size (after w bs) ≤ length bs + 1
after_le [] bs = omega arith
after_le (c ∷ w) [] = omega arith
after_le (c ∷ w) (b ∷ bs) = pick_le {A = Option (List ℕ)} (λ z. word_size z) (b == c) (after w bs) None (length (b ∷ bs) + 1) (omega (arith, after_le w bs)) (omega arith)
