-- What operators and numbers take from the front of a text.
use Rattle.std.proofs.Common.{◌≡◌, ℕ, ◌+◌, ◌<◌, ◌≤◌, List, [], ◌∷◌, length, refl, sym, ap, ◌∙◌, arith, Bool, true, false, true≢false, ◌&&◌, ◌||◌, Option, Some, None, Result, Ok, Err, if◌then◌else◌, nat_le, ◌==◌, bytes_eq, codes}
use Rattle.vtl_grammar.specs.declared.fault.Fault.{Fault}
use Rattle.vtl_grammar.specs.declared.fault.Fault.TheVariants.{BadExpression}
use Rattle.vtl_grammar.specs.Tree.{Operator, Expr, boolean, whole}
use Rattle.vtl_grammar.specs.Bytes.{is_digit, white, parted, name_at, taken, is_one_of}
use Rattle.vtl_grammar.specs.Faults.{◌>>=◌, Read, bad, bad_word}
use Rattle.vtl_grammar.specs.Operators.{How, alone, ranging, argument, Found, Sign, bar, ampersand, equals, exclamation, left_angle, right_angle, single, letter, no_sign, sign_of, word_operator, operand_words, words_behind, doubled, or_equal, unequal_or, spelled, signed, operator_at, ends_argument, operator}
use Rattle.vtl_grammar.specs.Numbers.{decimal, most, signed_whole, range_dot, dotted, number, minus_number, boolean_word}
use Rattle.vtl_grammar.specs.Expressions.{Lead, an_exclamation, an_n, a_dollar, a_minus, a_digit, a_quote, a_double_quote, a_t_or_f, a_round, a_square, a_brace, no_lead, lead_of}
use Rattle.vtl_grammar.proofs.Lexical.{pick_le, if_le, sized, read_size, list_left, name_le, taken_le, bad_size, front_drop, white_le}

abbrev pub found_left : Found → ℕ
found_left (Ok None) = 0
found_left (Ok (Some p)) = length p.1
found_left (Err f) = 0

bad_found : (bs : List ℕ) (n : ℕ) → found_left (bad bs) ≤ n
bad_found [] n = omega arith
bad_found (b ∷ bs) n = omega arith

doubled_le : (o : Operator) (c : ℕ) (bs : List ℕ) → found_left (doubled o c bs) ≤ length bs
doubled_le o c [] = omega arith
doubled_le o c (b ∷ bs) = if_le {A = Result (List ℕ) Fault} (λ r. found_left (r >>= λ rest. Ok (Some (o, rest)))) (b == c) (Ok bs) (Err (BadExpression (length bs + 1))) (length (b ∷ bs)) (omega arith) (omega arith)

or_equal_le : (o p : Operator) (t : Bool × List ℕ) → found_left (or_equal o p t) ≤ length t.1
or_equal_le o p (true, rest) = omega arith
or_equal_le o p (false, rest) = omega arith

unequal_le : (next : Bool) (t : Bool × List ℕ) → found_left (unequal_or next t) ≤ length t.1
unequal_le true (true, rest) = omega arith
unequal_le false (true, rest) = omega arith
unequal_le true (false, rest) = omega arith
unequal_le false (false, rest) = bad_found rest (length rest)

spelled_or : (next : Bool) (bs x rest : List ℕ) (w : Option Operator) → found_left (elim w as (λ _. Found) [ Some o ↦ Ok (Some (o, rest)) | None ↦ elim (next && is_one_of operand_words x) [ true ↦ Ok None | false ↦ bad_word (words_behind next) bs ] ]) ≤ length rest
spelled_or next bs x rest (Some o) = omega arith
spelled_or next bs x rest None = pick_le {A = Found} (λ z. found_left z) (next && is_one_of operand_words x) (Ok None) (bad_word (words_behind next) bs) (length rest) (omega arith) (bad_found _ (length rest))

spelled_le : (next : Bool) (bs : List ℕ) (o : Option (List ℕ × List ℕ)) → found_left (spelled next bs o) ≤ sized o
spelled_le next bs None = omega arith
spelled_le next bs (Some (x, rest)) = omega (arith, spelled_or next bs x rest (word_operator x))

signed_le : (next : Bool) (s : Sign) (b : ℕ) (bs : List ℕ) → found_left (signed next s b bs) ≤ length bs + 1
signed_le next bar b bs = omega (arith, doubled_le Operator.or_ 124 bs)
signed_le next ampersand b bs = omega (arith, doubled_le Operator.and_ 38 bs)
signed_le next equals b bs = omega (arith, doubled_le Operator.equal 61 bs)
signed_le next exclamation b bs = omega (arith, unequal_le next (taken 61 bs), taken_le 61 bs)
signed_le next left_angle b bs = omega (arith, or_equal_le Operator.less Operator.at_most (taken 61 bs), taken_le 61 bs)
signed_le next right_angle b bs = omega (arith, or_equal_le Operator.greater Operator.at_least (taken 61 bs), taken_le 61 bs)
signed_le next (single o) b bs = omega arith
signed_le next letter b bs = omega (arith, spelled_le next (b ∷ bs) (name_at (b ∷ bs)), name_le (b ∷ bs))
signed_le next no_sign b bs = omega arith

operator_at_le : (next : Bool) (bs : List ℕ) → found_left (operator_at next bs) ≤ length bs
operator_at_le next [] = omega arith
operator_at_le next (b ∷ bs) = omega (arith, signed_le next (sign_of b) b bs)

-- what follows an operator
pub operator_less : (how : How) (bs : List ℕ) {more : List ℕ} {o : Operator} → operator how bs ≡ Ok (Some (o, more)) → length more ≤ length bs
operator_less how bs {more = more} {o = o} e =
    let h : found_left (operator how bs) ≡ found_left (Ok (Some (o, more))) = ap (λ z. found_left z) e in
    omega (arith, h, operator_at_le (ends_argument how bs) (white bs), white_le bs)

dot_le : (all bs : List ℕ) → list_left (range_dot all bs) ≤ length all
dot_le all [] = omega arith
dot_le all (c ∷ bs) = if_le {A = Result (List ℕ) Fault} (λ z. list_left z) (is_digit c) (Err (BadExpression (length bs + 2))) (if c == 46 then Ok all else Err (BadExpression (length bs + 1))) (length all) (omega arith)
    (if_le {A = Result (List ℕ) Fault} (λ z. list_left z) (c == 46) (Ok all) (Err (BadExpression (length bs + 1))) (length all) (omega arith) (omega arith))

dotted_le : (how : How) (bs : List ℕ) → list_left (dotted how bs) ≤ length bs
dotted_le alone [] = omega arith
dotted_le ranging [] = omega arith
dotted_le argument [] = omega arith
dotted_le ranging (b ∷ bs) = if_le {A = Result (List ℕ) Fault} (λ z. list_left z) (b == 46) (range_dot (b ∷ bs) bs) (Ok (b ∷ bs)) (length (b ∷ bs)) (dot_le (b ∷ bs) bs) (omega arith)
dotted_le alone (b ∷ bs) = if_le {A = Result (List ℕ) Fault} (λ z. list_left z) (b == 46) (Err (BadExpression (length bs + 1))) (Ok (b ∷ bs)) (length (b ∷ bs)) (omega arith) (omega arith)
dotted_le argument (b ∷ bs) = if_le {A = Result (List ℕ) Fault} (λ z. list_left z) (b == 46) (Err (BadExpression (length bs + 1))) (Ok (b ∷ bs)) (length (b ∷ bs)) (omega arith) (omega arith)

then_le : (e : Expr) (r : Result (List ℕ) Fault) → read_size {A = Expr} (r >>= λ rest. Ok (e, rest)) ≤ list_left r + 1
then_le e (Ok rest) = omega arith
then_le e (Err f) = omega arith

number_if : (t : Bool) (at : ℕ) (r : Read Expr) (n : ℕ) → read_size r ≤ n → read_size (elim t as (λ _. Read Expr) [ false ↦ Err (BadExpression at) | true ↦ r ]) ≤ n
number_if true at r n h = h
number_if false at r n h = omega arith

pub number_le : (how : How) (at : ℕ) (negative : Bool) (bs : List ℕ) → read_size (number how at negative bs) ≤ length (parted is_digit bs).1 + 1
number_le how at negative bs =
    number_if (nat_le (decimal 0 (parted is_digit bs).0) (most negative)) at _ _
    (omega (arith, then_le (whole (signed_whole negative (decimal 0 (parted is_digit bs).0))) (dotted how (parted is_digit bs).1), dotted_le how (parted is_digit bs).1))

pub number_less : (how : How) (at : ℕ) (negative : Bool) (b : ℕ) (bs : List ℕ) {e : Expr} {rest : List ℕ} → is_digit b ≡ true → number how at negative (b ∷ bs) ≡ Ok (e, rest) → length rest < length (b ∷ bs)
number_less how at negative b bs {e = e} {rest = rest} d h =
    let k : read_size (number how at negative (b ∷ bs)) ≡ read_size {A = Expr} (Ok (e, rest)) = ap (λ z. read_size z) h in
    omega (arith, k, number_le how at negative (b ∷ bs), front_drop is_digit b bs d)

minus_if : (how : How) (t : Bool) (b : ℕ) (bs : List ℕ) → is_digit b ≡ t → read_size (elim t as (λ _. Read Expr) [ true ↦ number how (length bs + 2) true (b ∷ bs) | false ↦ bad (b ∷ bs) ]) ≤ length (b ∷ bs) + 1
minus_if how true b bs h = omega (arith, number_le how (length bs + 2) true (b ∷ bs), front_drop is_digit b bs h)
minus_if how false b bs h = bad_size Expr (b ∷ bs) (length (b ∷ bs) + 1)

minus_le : (how : How) (bs : List ℕ) → read_size (minus_number how bs) ≤ length bs + 1
minus_le how [] = bad_size Expr [] 1
minus_le how (b ∷ bs) = minus_if how (is_digit b) b bs refl

pub minus_less : (how : How) (bs : List ℕ) {e : Expr} {rest : List ℕ} → minus_number how bs ≡ Ok (e, rest) → length rest ≤ length bs
minus_less how bs {e = e} {rest = rest} h =
    let k : read_size (minus_number how bs) ≡ read_size {A = Expr} (Ok (e, rest)) = ap (λ z. read_size z) h in
    omega (arith, k, minus_le how bs)

boolean_le : (bs : List ℕ) (o : Option (List ℕ × List ℕ)) → read_size (boolean_word bs o) ≤ sized o
boolean_le bs None = bad_size Expr bs 0
boolean_le bs (Some (x, rest)) =
    pick_le {A = Read Expr} (λ z. read_size z) (bytes_eq x (codes "true")) (Ok (boolean true, rest)) (elim (bytes_eq x (codes "false")) as (λ _. Read Expr) [ true ↦ Ok (boolean false, rest) | false ↦ bad_word (codes "true" ∷ codes "false" ∷ []) bs ]) (length rest + 1) (omega arith)
    (pick_le {A = Read Expr} (λ z. read_size z) (bytes_eq x (codes "false")) (Ok (boolean false, rest)) (bad_word (codes "true" ∷ codes "false" ∷ []) bs) (length rest + 1) (omega arith) (bad_size Expr _ (length rest + 1)))

pub boolean_less : (bs : List ℕ) {e : Expr} {rest : List ℕ} → boolean_word bs (name_at bs) ≡ Ok (e, rest) → length rest < length bs
boolean_less bs {e = e} {rest = rest} h =
    let k : read_size (boolean_word bs (name_at bs)) ≡ read_size {A = Expr} (Ok (e, rest)) = ap (λ z. read_size z) h in
    omega (arith, k, boolean_le bs (name_at bs), name_le bs)

abbrev is_digit_lead : Lead → Bool
is_digit_lead a_digit = true
is_digit_lead an_exclamation = false
is_digit_lead an_n = false
is_digit_lead a_dollar = false
is_digit_lead a_minus = false
is_digit_lead a_quote = false
is_digit_lead a_double_quote = false
is_digit_lead a_t_or_f = false
is_digit_lead a_round = false
is_digit_lead a_square = false
is_digit_lead a_brace = false
is_digit_lead no_lead = false

digit_past : (t : Bool) (a l : Lead) (d : Bool) → is_digit_lead a ≡ false → (is_digit_lead l ≡ true → d ≡ true) → is_digit_lead (if t then a else l) ≡ true → d ≡ true
digit_past true a l d n h e = absurd (true≢false (sym e ∙ n))
digit_past false a l d n h e = h e

digit_here : (d : Bool) (l : Lead) → (is_digit_lead l ≡ true → d ≡ true) → is_digit_lead (if d then a_digit else l) ≡ true → d ≡ true
digit_here true l h e = refl
digit_here false l h e = h e

-- a digit begins a number
pub digit_lead : (b : ℕ) → lead_of b ≡ a_digit → is_digit b ≡ true
digit_lead b e =
    digit_past (b == 33) an_exclamation _ _ refl
    (digit_past (b == 110) an_n _ _ refl
    (digit_past (b == 36) a_dollar _ _ refl
    (digit_past (b == 45) a_minus _ _ refl
    (digit_here (is_digit b) _
    (digit_past (b == 39) a_quote _ _ refl
    (digit_past (b == 34) a_double_quote _ _ refl
    (digit_past ((b == 116) || (b == 102)) a_t_or_f _ _ refl
    (digit_past (b == 40) a_round _ _ refl
    (digit_past (b == 91) a_square _ _ refl
    (digit_past (b == 123) a_brace no_lead (is_digit b) refl (λ f. absurd (true≢false (sym f)))))))))))))
    (ap (λ l. is_digit_lead l) e)
