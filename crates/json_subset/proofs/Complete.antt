-- What is of the grammar is read.
use Rattle.std.proofs.Common.{◌≡◌, ℕ, zero, suc, ◌+◌, ◌-◌, ◌<◌, ◌≤◌, List, [], ◌∷◌, ◌++◌, length, Bool, true, false, refl, sym, ap, ◌∙◌, subst, arith, Some, None, append_assoc, append-nil}
use Rattle.std.specs.Prelude.{Ok, Err, Result, if◌then◌else◌, ◌==◌, nat_le, ◌&&◌}
use Rattle.std.specs.Char.{encode_utf8}
use Rattle.std.proofs.lemmas.Bool.Decides.{nat_tests}
use Rattle.json_subset.specs.declared.fault.JsonFault.{JsonFault}
use Rattle.json_subset.specs.declared.fault.JsonFault.TheVariants.{Syntax, Repeated}
use Rattle.json_subset.specs.Tree.{Tree, Form, list, object, Trees, no_trees, tree, Members, no_members, member, trees_of, members_of}
use Rattle.json_subset.specs.Scan.{◌>>=◌, Read, place, is_digit, after_white, behind, after_digits, some_digits, unsigned, whole_part, fraction, unsigned_exponent, exponent, after_number, Next, next_front, colon_front, colon}
use Rattle.json_subset.specs.Strings.{is_plain, run, past_run, hex, hex_as, hex_digit, four, unit_end, first_unit, low_unit, is_high, pair_char, adds, second_half, unicode, short, escape_as, escape, at_stop, on_step, text_from, string}
use Rattle.json_subset.specs.Reading.{Bracket, number_form, text_form, form_at, spanned, with_next, with_part, parts, item, list_form, list_from, named, unlike, label, labelled, pair, names_of, object_form, object_from, opened, value, end_at, document}
use Rattle.json_subset.specs.Grammar as g
use Rattle.json_subset.specs.Grammar.{begins, Digits, last_digit, one_digit, Whole, zero_alone, not_from_zero, is_point, Fraction, no_fraction, is_e, is_sign, Exponent, no_exponent, signed_exponent, Numeral, positive, negative, Unit16, four_digits, IsSurrogate, IsHigh, IsLow, Text, text_end, text_plain, text_short, text_unit, text_pair, Value, a_value, Shape, the_null, the_true, the_false, some_number, some_text, empty_list, some_list, empty_object, some_object, Items, last_item, one_item, Pairs, last_pair, one_pair, depth, form_depth, trees_depth, members_depth, HasNewNames, IsDistinct, IsDistinctForm, AreDistinct, AreDistinctMembers, IsText}
use Rattle.json_subset.proofs.Choices.{byte_is, is_byte, digit_byte, hex_ascii, short_ascii}
use Rattle.json_subset.proofs.Rests.{ahead_le, white_ahead, number_less, text_less, unit_ahead}

-- numbers
digits_stop : (bs : List ℕ) → begins is_digit bs ≡ false → after_digits bs ≡ bs
digits_stop [] h = refl
digits_stop (b ∷ bs) h = ap (λ v. if v then after_digits bs else b ∷ bs) h

digits_after : {bs rest : List ℕ} → Digits bs rest → after_digits bs ≡ rest
digits_after (last_digit b rest h k) = ap (λ v. if v then after_digits rest else b ∷ rest) h ∙ digits_stop rest k
digits_after (one_digit b bs rest h d) = ap (λ v. if v then after_digits bs else b ∷ bs) h ∙ digits_after d

some_complete : {bs rest : List ℕ} (n : ℕ) → Digits bs rest → some_digits n bs ≡ Ok rest
some_complete n (last_digit b rest h k) = ap (λ v. if v then Ok (after_digits rest) else Err (Syntax (place n (b ∷ rest)))) h ∙ ap (λ z. Ok z) (digits_stop rest k)
some_complete n (one_digit b bs rest h d) = ap (λ v. if v then Ok (after_digits bs) else Err (Syntax (place n (b ∷ bs)))) h ∙ ap (λ z. Ok z) (digits_after d)

whole_complete : {bs rest : List ℕ} (n : ℕ) → Whole bs rest → whole_part n bs ≡ Ok rest
whole_complete n (zero_alone rest) = refl
whole_complete n (not_from_zero b bs rest h d) = ap (λ v. if v then Ok bs else some_digits n (b ∷ bs)) (is_byte b 48 h) ∙ some_complete n d

fraction_complete : {bs rest : List ℕ} (n : ℕ) → Fraction bs rest → fraction n bs ≡ Ok rest
fraction_complete n (no_fraction [] h) = refl
fraction_complete n (no_fraction (b ∷ bs) h) = ap (λ v. if v then some_digits n bs else Ok (b ∷ bs)) h
fraction_complete n (g.fraction bs rest d) = some_complete n d

digit_no_sign : (b : ℕ) → is_digit b ≡ true → is_sign b ≡ false
digit_no_sign b h = grind (arith, nat_tests)

digits_unsigned : {bs rest : List ℕ} → Digits bs rest → unsigned_exponent bs ≡ bs
digits_unsigned (last_digit b rest h k) = ap (λ v. if v then rest else b ∷ rest) (digit_no_sign b h)
digits_unsigned (one_digit b bs rest h d) = ap (λ v. if v then bs else b ∷ bs) (digit_no_sign b h)

exponent_complete : {bs rest : List ℕ} (n : ℕ) → Exponent bs rest → exponent n bs ≡ Ok rest
exponent_complete n (no_exponent [] h) = refl
exponent_complete n (no_exponent (b ∷ bs) h) = ap (λ v. if v then some_digits n (unsigned_exponent bs) else Ok (b ∷ bs)) h
exponent_complete n (g.exponent e bs rest h d) = ap (λ v. if v then some_digits n (unsigned_exponent bs) else Ok (e ∷ bs)) h ∙ ap (some_digits n) (digits_unsigned d) ∙ some_complete n d
exponent_complete n (signed_exponent e s bs rest h k d) =
    ap (λ v. if v then some_digits n (unsigned_exponent (s ∷ bs)) else Ok (e ∷ s ∷ bs)) h
    ∙ ap (λ v. some_digits n (if v then bs else s ∷ bs)) k
    ∙ some_complete n d

digit_no_minus : (b : ℕ) → is_digit b ≡ true → (b == 45) ≡ false
digit_no_minus b h = grind (arith, nat_tests)

digits_positive : {bs rest : List ℕ} → Digits bs rest → unsigned bs ≡ bs
digits_positive (last_digit b rest h k) = ap (λ v. if v then rest else b ∷ rest) (digit_no_minus b h)
digits_positive (one_digit b bs rest h d) = ap (λ v. if v then bs else b ∷ bs) (digit_no_minus b h)

whole_positive : {bs rest : List ℕ} → Whole bs rest → unsigned bs ≡ bs
whole_positive (zero_alone rest) = refl
whole_positive (not_from_zero b bs rest h d) = digits_positive d

parts_complete : {bs whole part rest : List ℕ} (n : ℕ) → Whole bs whole → Fraction whole part → Exponent part rest → (whole_part n bs >>= λ w. fraction n w >>= λ f. exponent n f) ≡ Ok rest
parts_complete n a b c =
    ap (λ r. r >>= λ w. fraction n w >>= λ f. exponent n f) (whole_complete n a)
    ∙ ap (λ r. r >>= λ f. exponent n f) (fraction_complete n b)
    ∙ exponent_complete n c

pub number_complete : {bs rest : List ℕ} (n : ℕ) → Numeral bs rest → after_number n bs ≡ Ok rest
number_complete n (positive bs w f rest a b c) = ap (λ z. whole_part n z >>= λ w. fraction n w >>= λ f. exponent n f) (whole_positive a) ∙ parts_complete n a b c
number_complete n (negative bs w f rest a b c) = parts_complete n a b c

-- strings
hex_complete : (n low high b v : ℕ) (bs : List ℕ) → hex b ≡ Some v → low ≤ v → v ≤ high → hex_digit n low high (b ∷ bs) ≡ Ok (v, bs)
hex_complete n low high b v bs e h k = ap (hex_as n low high b bs) e ∙ ap (λ z. if z then Ok (v, bs) else Err (Syntax (place n (b ∷ bs)))) (within h k)
  where
    within : low ≤ v → v ≤ high → (nat_le low v && nat_le v high) ≡ true
    within h k = grind (arith, nat_tests)

end_complete : (n a b c d y z : ℕ) (rest : List ℕ) → hex c ≡ Some y → hex d ≡ Some z → unit_end n a b (c ∷ d ∷ rest) ≡ Ok (four a b y z, rest)
end_complete n a b c d y z rest h k =
    let y_small = (hex_ascii c y h).1 in
    let z_small = (hex_ascii d z k).1 in
    ap (λ r. r >>= λ p. hex_digit n 0 15 p.1 >>= λ q. Ok (four a b p.0 q.0, q.1)) (hex_complete n 0 15 c y (d ∷ rest) h (omega arith) (omega (arith, y_small)))
    ∙ ap (λ r. r >>= λ q. Ok (four a b y q.0, q.1)) (hex_complete n 0 15 d z rest k (omega arith) (omega (arith, z_small)))

second_small : (w x y z : ℕ) → w < 16 → x < 16 → y < 16 → z < 16 → (IsLow (four w x y z) → ⊥) → x ≤ (if w == 13 then 11 else 15)
second_small w x y z a b c d h = go (w == 13) refl
  where
    go : (v : Bool) → (w == 13) ≡ v → x ≤ (if v then 11 else 15)
    go true e = (let k = byte_is w 13 e in grind arith)
    go false e = omega (arith, b)

first_complete : {bs rest : List ℕ} {u : ℕ} (n : ℕ) → Unit16 bs u rest → (IsLow u → ⊥) → first_unit n bs ≡ Ok (u, rest)
first_complete n (four_digits a b c d w x y z rest i j k l) h =
    let w_small = (hex_ascii a w i).1 in
    ap (λ r. r >>= λ p. hex_digit n 0 (if p.0 == 13 then 11 else 15) p.1 >>= λ q. unit_end n p.0 q.0 q.1) (hex_complete n 0 15 a w (b ∷ c ∷ d ∷ rest) i (omega arith) (omega (arith, w_small)))
    ∙ ap (λ r. r >>= λ q. unit_end n w q.0 q.1) (hex_complete n 0 (if w == 13 then 11 else 15) b x (c ∷ d ∷ rest) j (omega arith) (second_small w x y z (hex_ascii a w i).1 (hex_ascii b x j).1 (hex_ascii c y k).1 (hex_ascii d z l).1 h))
    ∙ end_complete n w x c d y z rest k l

low_first : (w x y z : ℕ) → w < 16 → x < 16 → y < 16 → z < 16 → IsLow (four w x y z) → (13 ≤ w) × (w ≤ 13) × (12 ≤ x)
low_first w x y z a b c d h = (omega (arith, h), omega (arith, h), omega (arith, h))

low_complete : {bs rest : List ℕ} {u : ℕ} (n : ℕ) → Unit16 bs u rest → IsLow u → low_unit n bs ≡ Ok (u, rest)
low_complete n (four_digits a b c d w x y z rest i j k l) h =
    let f = low_first w x y z (hex_ascii a w i).1 (hex_ascii b x j).1 (hex_ascii c y k).1 (hex_ascii d z l).1 h in
    let x_small = (hex_ascii b x j).1 in
    ap (λ r. r >>= λ p. hex_digit n 12 15 p.1 >>= λ q. unit_end n p.0 q.0 q.1) (hex_complete n 13 13 a w (b ∷ c ∷ d ∷ rest) i f.0 f.1)
    ∙ ap (λ r. r >>= λ q. unit_end n w q.0 q.1) (hex_complete n 12 15 b x (c ∷ d ∷ rest) j f.2 (omega (arith, x_small)))
    ∙ end_complete n w x c d y z rest k l

high_true : (u : ℕ) → IsHigh u → is_high u ≡ true
high_true u h = grind (arith, nat_tests)

high_false : (u : ℕ) → (IsSurrogate u → ⊥) → is_high u ≡ false
high_false u h = grind (arith, nat_tests)

unit_step : {bs rest : List ℕ} {u : ℕ} (n : ℕ) → Unit16 bs u rest → (IsSurrogate u → ⊥) → unicode n bs ≡ Ok (adds (encode_utf8 u) rest)
unit_step {rest = rest} {u = u} n d h =
    ap (λ r. r >>= λ p. if is_high p.0 then second_half n p.0 p.1 else Ok (adds (encode_utf8 p.0) p.1)) (first_complete n d (λ l. h (omega (arith, l), omega (arith, l))))
    ∙ ap (λ v. if v then second_half n u rest else Ok (adds (encode_utf8 u) rest)) (high_false u h)

pair_step : {bs more rest : List ℕ} {u v : ℕ} (n : ℕ) → Unit16 bs u (92 ∷ 117 ∷ more) → IsHigh u → Unit16 more v rest → IsLow v → unicode n bs ≡ Ok (adds (encode_utf8 (pair_char u v)) rest)
pair_step {more = cs} {u = u} {v = v} n d h e l =
    ap (λ r. r >>= λ p. if is_high p.0 then second_half n p.0 p.1 else Ok (adds (encode_utf8 p.0) p.1)) (first_complete n d (λ k. omega (arith, k, h)))
    ∙ ap (λ z. if z then second_half n u (92 ∷ 117 ∷ cs) else Ok (adds (encode_utf8 u) (92 ∷ 117 ∷ cs))) (high_true u h)
    ∙ ap (λ r. r >>= λ w. Ok (adds (encode_utf8 (pair_char u w.0)) w.1)) (low_complete n e l)

run_step : (n : ℕ) (before : List ℕ) (f b : ℕ) (bs : List ℕ) → 0 < f → is_plain b ≡ true → text_from n before f (b ∷ bs) ≡ text_from n (before ++ b ∷ []) f bs
unfolding text_from
run_step n before zero b bs i h = absurd (omega (arith, i))
run_step n before (suc f) b bs i h =
    ap (λ v. at_stop n (if v then past_run bs else b ∷ bs) >>= λ s. on_step (λ t rest. text_from n t f rest) (before ++ (if v then b ∷ run bs else [])) s) h
    ∙ ap (λ z. at_stop n (past_run bs) >>= λ s. on_step (λ t rest. text_from n t f rest) z s) (sym (append_assoc before (b ∷ []) (run bs)))

-- an escape, and the text behind it
step_text : (n : ℕ) (before : List ℕ) (f : ℕ) (bs u later t rest : List ℕ) → 0 < f → escape n bs ≡ Ok (adds u later) → text_from n ((before ++ []) ++ u) (f - 1) later ≡ Ok (((before ++ []) ++ u) ++ t, rest) → text_from n before f (92 ∷ bs) ≡ Ok (before ++ (u ++ t), rest)
unfolding text_from
step_text n before zero bs u later t rest i e k = absurd (omega (arith, i))
step_text n before (suc f) bs u later t rest i e k =
    ap (λ r. r >>= λ s. on_step (λ t rest. text_from n t f rest) (before ++ []) s) e
    ∙ ap (λ j. text_from n ((before ++ []) ++ u) j later) (let j : f ≡ suc f - 1 = omega arith in j)
    ∙ k
    ∙ ap (λ z. Ok (z, rest)) (append_assoc (before ++ []) u t ∙ ap (λ z. z ++ (u ++ t)) (append-nil before))

end_text : (n : ℕ) (before : List ℕ) (f : ℕ) (rest : List ℕ) → 0 < f → text_from n before f (34 ∷ rest) ≡ Ok (before ++ [], rest)
unfolding text_from
end_text n before zero rest i = absurd (omega (arith, i))
end_text n before (suc f) rest i = refl

pub text_complete : {bs t rest : List ℕ} (n : ℕ) (before : List ℕ) (f : ℕ) → Text bs t rest → length bs < f → text_from n before f bs ≡ Ok (before ++ t, rest)
text_complete n before f (text_end rest) h = end_text n before f rest (omega (arith, h))
text_complete n before f (text_plain b bs t rest p d) h =
    run_step n before f b bs (omega (arith, h)) p
    ∙ text_complete n (before ++ b ∷ []) f d (omega (arith, h))
    ∙ ap (λ z. Ok (z, rest)) (append_assoc before (b ∷ []) t)
text_complete n before f (text_short b c bs t rest e d) h =
    step_text n before f (b ∷ bs) (c ∷ []) bs t rest (omega (arith, h))
    (ap (λ v. if v then unicode n bs else escape_as n b bs (short b)) (is_byte b 117 (short_ascii b c e).2) ∙ ap (escape_as n b bs) e)
    (text_complete n ((before ++ []) ++ c ∷ []) (f - 1) d (omega (arith, h)))
text_complete n before f (text_unit u bs later t rest e k d) h =
    step_text n before f (117 ∷ bs) (encode_utf8 u) later t rest (omega (arith, h)) (unit_step n e k) (text_complete n ((before ++ []) ++ encode_utf8 u) (f - 1) d (omega (arith, h, ahead_le (unit_ahead e))))
text_complete n before f (text_pair u v bs between later t rest e k i l d) h =
    step_text n before f (117 ∷ bs) (encode_utf8 (pair_char u v)) later t rest (omega (arith, h)) (pair_step n e k i l) (text_complete n ((before ++ []) ++ encode_utf8 (pair_char u v)) (f - 1) d (omega (arith, h, ahead_le (unit_ahead e), ahead_le (unit_ahead i))))

pub string_complete : {bs t rest : List ℕ} (n : ℕ) → Text bs t rest → string n bs ≡ Ok (t, rest)
string_complete {bs = bs} n d = text_complete n [] (length bs + 1) d (omega arith)

-- what is left is shorter
pub after_less : (bs cs rest : List ℕ) (b : ℕ) → after_white bs ≡ b ∷ cs → length cs < length bs
after_less bs cs rest b e = let k = ap length e in omega (arith, k, ahead_le (white_ahead bs))

mutual
  pub value_less : {n : ℕ} {bs : List ℕ} {t : Tree} {rest : List ℕ} → Value n bs t rest → length rest < length bs
  value_less (a_value bs rest f s) = shape_less s

  pub shape_less : {n : ℕ} {bs : List ℕ} {f : Form} {rest : List ℕ} → Shape n bs f rest → length rest < length bs
  shape_less (the_null rest) = omega arith
  shape_less (the_true rest) = omega arith
  shape_less (the_false rest) = omega arith
  shape_less (some_number bs rest d) = number_less d
  shape_less (some_text bs t rest d) = omega (arith, text_less d)
  shape_less (empty_list bs rest e) = omega (arith, after_less bs rest [] 93 e)
  shape_less (some_list bs rest ts d) = omega (arith, items_less d, ahead_le (white_ahead bs))
  shape_less (empty_object bs rest e) = omega (arith, after_less bs rest [] 125 e)
  shape_less (some_object bs rest ms d) = omega (arith, pairs_less d, ahead_le (white_ahead bs))

  pub items_less : {n : ℕ} {bs : List ℕ} {ts : Trees} {rest : List ℕ} → Items n bs ts rest → length rest < length bs
  items_less (last_item bs later rest t v e) = omega (arith, value_less v, after_less later rest [] 93 e)
  items_less (one_item bs later cs rest t ts v e o) = omega (arith, value_less v, after_less later cs [] 44 e, items_less o, ahead_le (white_ahead cs))

  pub pairs_less : {n : ℕ} {bs : List ℕ} {ms : Members} {rest : List ℕ} → Pairs n bs ms rest → length rest < length bs
  pairs_less (last_pair bs x mark start later rest t d e v k) = omega (arith, text_less d, after_less mark start [] 58 e, value_less v, ahead_le (white_ahead start), after_less later rest [] 125 k)
  pairs_less (one_pair bs x mark start later cs rest t ms d e v k o) = omega (arith, text_less d, after_less mark start [] 58 e, value_less v, ahead_le (white_ahead start), after_less later cs [] 44 k, pairs_less o, ahead_le (white_ahead cs))

-- the front of a value
number_front : (n b : ℕ) (brackets : Bracket → List ℕ → Read Form) (bs : List ℕ) → 45 ≤ b → b ≤ 57 → form_at n brackets (b ∷ bs) ≡ number_form (b ∷ bs) (after_number n (b ∷ bs))
number_front n b brackets bs h k = grind (arith, nat_tests)

digits_front : {bs rest : List ℕ} (n : ℕ) (brackets : Bracket → List ℕ → Read Form) → Digits bs rest → form_at n brackets bs ≡ number_form bs (after_number n bs)
digits_front n brackets (last_digit b rest h k) = let e = digit_byte b h in number_front n b brackets rest (omega (arith, e)) e.1
digits_front n brackets (one_digit b bs rest h d) = let e = digit_byte b h in number_front n b brackets bs (omega (arith, e)) e.1

whole_front : {bs rest : List ℕ} (n : ℕ) (brackets : Bracket → List ℕ → Read Form) → Whole bs rest → form_at n brackets bs ≡ number_form bs (after_number n bs)
whole_front n brackets (zero_alone rest) = refl
whole_front n brackets (not_from_zero b bs rest h d) = digits_front n brackets d

pub numeral_front : {bs rest : List ℕ} (n : ℕ) (brackets : Bracket → List ℕ → Read Form) → Numeral bs rest → form_at n brackets bs ≡ number_form bs (after_number n bs)
numeral_front n brackets (positive bs w f rest a b c) = whole_front n brackets a
numeral_front n brackets (negative bs w f rest a b c) = refl

-- no value begins with a closing bracket
digit_not : (b c : ℕ) → is_digit b ≡ true → 57 < c → (b == c) ≡ false
digit_not b c h k = let e = digit_byte b h in is_byte b c (λ i. omega (arith, i, e, k))

digits_not : {bs rest : List ℕ} (c : ℕ) → 57 < c → Digits bs rest → behind c bs ≡ None
digits_not c k (last_digit b rest h j) = ap (λ v. if v then Some rest else None) (digit_not b c h k)
digits_not c k (one_digit b bs rest h d) = ap (λ v. if v then Some bs else None) (digit_not b c h k)

byte_not : (b c : ℕ) (bs : List ℕ) → (b ≡ c → ⊥) → behind c (b ∷ bs) ≡ None
byte_not b c bs h = ap (λ v. if v then Some bs else None) (is_byte b c h)

numeral_not : {bs rest : List ℕ} (c : ℕ) → 57 < c → Numeral bs rest → behind c bs ≡ None
numeral_not c k (positive bs w f rest (zero_alone z) b d) = byte_not 48 c z (λ e. omega (arith, e, k))
numeral_not c k (positive bs w f rest (not_from_zero x xs z h a) b d) = digits_not c k a
numeral_not c k (negative bs w f rest a b d) = byte_not 45 c bs (λ e. omega (arith, e, k))

shape_not : {n : ℕ} {bs : List ℕ} {f : Form} {rest : List ℕ} → Shape n bs f rest → behind 93 bs ≡ None
shape_not (the_null rest) = refl
shape_not (the_true rest) = refl
shape_not (the_false rest) = refl
shape_not (some_number bs rest d) = numeral_not 93 (omega arith) d
shape_not (some_text bs t rest d) = refl
shape_not (empty_list bs rest e) = refl
shape_not (some_list bs rest ts d) = refl
shape_not (empty_object bs rest e) = refl
shape_not (some_object bs rest ms d) = refl

value_not : {n : ℕ} {bs : List ℕ} {t : Tree} {rest : List ℕ} → Value n bs t rest → behind 93 bs ≡ None
value_not (a_value bs rest f s) = shape_not s

pub items_not : {n : ℕ} {bs : List ℕ} {ts : Trees} {rest : List ℕ} → Items n bs ts rest → behind 93 bs ≡ None
items_not (last_item bs later rest t v e) = value_not v
items_not (one_item bs later cs rest t ts v e o) = value_not v

pub pairs_not : {n : ℕ} {bs : List ℕ} {ms : Members} {rest : List ℕ} → Pairs n bs ms rest → behind 125 bs ≡ None
pairs_not (last_pair bs x mark start later rest t d e v k) = refl
pairs_not (one_pair bs x mark start later cs rest t ms d e v k o) = refl

-- lists of the parts
abbrev pub list_of : Trees → List Tree
list_of no_trees = []
list_of (tree t ts) = t ∷ list_of ts

pub list_same : (ts : Trees) → trees_of (list_of ts) ≡ ts
list_same no_trees = refl
list_same (tree t ts) = ap (tree t) (list_same ts)

abbrev pub pairs_of : Members → List (List ℕ × Tree)
pairs_of no_members = []
pairs_of (member x t ms) = (x, t) ∷ pairs_of ms

pub pairs_same : (ms : Members) → members_of (pairs_of ms) ≡ ms
pairs_same no_members = refl
pairs_same (member x t ms) = ap (member x t) (pairs_same ms)

names_push : (ms : List (List ℕ × Tree)) (x : List ℕ) (t : Tree) → names_of (ms ++ (x, t) ∷ []) ≡ names_of ms ++ x ∷ []
names_push [] x t = refl
names_push (m ∷ ms) x t = ap (λ z. m.0 ∷ z) (names_push ms x t)

pub parts_step : {A : Type 0} (n : ℕ) (step : List A → List ℕ → Result (A × Next) JsonFault) (before : List A) (f : ℕ) (bs : List ℕ) → 0 < f → parts n step before f bs ≡ (step before bs >>= with_part (λ xs rest. parts n step xs (f - 1) rest) before)
unfolding parts
parts_step n step before zero bs h = absurd (omega (arith, h))
parts_step n step before (suc f) bs h = let e : f ≡ suc f - 1 = omega arith in ap (λ k. step before bs >>= with_part (λ xs rest. parts n step xs k rest) before) e

-- a member up to its value
abbrev pub handed : List ℕ → List ℕ → Read (List ℕ)
handed mark x = Ok (x, mark)

abbrev pub taken_back : List ℕ → List ℕ → Read (List ℕ)
taken_back x cs = Ok (x, cs)

abbrev pub coloned : ℕ → List ℕ × List ℕ → Read (List ℕ)
coloned n x = colon n x.1 >>= taken_back x.0

abbrev pub fresh_name : ℕ → ℕ → (List ℕ → Bool) → List ℕ × List ℕ → Read (List ℕ)
fresh_name n at taken r = unlike at taken r.0 >>= handed r.1

pub label_complete : {bs x mark : List ℕ} (n : ℕ) (taken : List ℕ → Bool) (start : List ℕ) → Text bs x mark → after_white mark ≡ 58 ∷ start → taken x ≡ false → label n taken (34 ∷ bs) ≡ Ok (x, after_white start)
label_complete {bs = bs} {x = x} {mark = mark} n taken start d e h =
    let first : Read (List ℕ) → Read (List ℕ) = λ r. (r >>= fresh_name n (place n (34 ∷ bs)) taken) >>= coloned n in
    let second : Bool → Read (List ℕ) = λ v. ((if v then Err (Repeated (place n (34 ∷ bs))) else Ok x) >>= handed mark) >>= coloned n in
    let third : List ℕ → Read (List ℕ) = λ z. colon_front n z >>= taken_back x in
    ap first (string_complete n d) ∙ ap second h ∙ ap third e

mutual
  unfolding opened

  pub value_complete : {n : ℕ} {bs : List ℕ} {t : Tree} {rest : List ℕ} (d : ℕ) → Value n bs t rest → length bs ≤ n → depth t ≤ d → IsDistinct t → value n d bs ≡ Ok (t, rest)
  value_complete {n = n} d (a_value bs rest f s) h k q = ap (spanned n (place n bs)) (shape_complete d (place n bs) s h k q)

  pub shape_complete : {n : ℕ} {bs : List ℕ} {f : Form} {rest : List ℕ} (d at : ℕ) → Shape n bs f rest → length bs ≤ n → form_depth f ≤ d → IsDistinctForm f → form_at n (opened n d at) bs ≡ Ok (f, rest)
  shape_complete d at (the_null rest) h k q = refl
  shape_complete d at (the_true rest) h k q = refl
  shape_complete d at (the_false rest) h k q = refl
  shape_complete {n = n} d at (some_number bs rest m) h k q = numeral_front n (opened n d at) m ∙ ap (number_form bs) (number_complete n m)
  shape_complete {n = n} d at (some_text bs t rest m) h k q = ap text_form (string_complete n m)
  shape_complete zero at (empty_list bs rest e) h k q = absurd (omega (arith, k))
  shape_complete {n = n} (suc d) at (empty_list bs rest e) h k q = ap (λ z. list_from n (value n d) z (behind 93 z)) e
  shape_complete zero at (some_list bs rest ts m) h k q = absurd (omega (arith, k))
  shape_complete {n = n} (suc d) at (some_list bs rest ts m) h k q =
      ap (list_from n (value n d) (after_white bs)) (items_not m)
      ∙ ap list_form (items_complete d [] (n + 1) m (omega (arith, h, ahead_le (white_ahead bs))) (omega (arith, h, ahead_le (white_ahead bs))) (omega (arith, k)) q)
      ∙ ap (λ z. Ok (list z, rest)) (list_same ts)
  shape_complete zero at (empty_object bs rest e) h k q = absurd (omega (arith, k))
  shape_complete {n = n} (suc d) at (empty_object bs rest e) h k q = ap (λ z. object_from n (value n d) z (behind 125 z)) e
  shape_complete zero at (some_object bs rest ms m) h k q = absurd (omega (arith, k))
  shape_complete {n = n} (suc d) at (some_object bs rest ms m) h k q =
      ap (object_from n (value n d) (after_white bs)) (pairs_not m)
      ∙ ap object_form (pairs_complete d [] (n + 1) m (omega (arith, h, ahead_le (white_ahead bs))) (omega (arith, h, ahead_le (white_ahead bs))) (omega (arith, k)) q.1 q.0)
      ∙ ap (λ z. Ok (object z, rest)) (pairs_same ms)

  pub items_complete : {n : ℕ} {bs : List ℕ} {ts : Trees} {rest : List ℕ} (d : ℕ) (before : List Tree) (f : ℕ) → Items n bs ts rest → length bs ≤ n → length bs < f → trees_depth ts ≤ d → AreDistinct ts → parts n (λ xs cs. item n (value n d cs)) before f bs ≡ Ok (before ++ list_of ts, rest)
  items_complete {n = n} d before f (last_item bs later rest t v e) h i k q =
      parts_step n (λ xs cs. item n (value n d cs)) before f bs (omega (arith, i))
      ∙ ap (λ r. item n r >>= with_part (λ xs cs. parts n (λ ys zs. item n (value n d zs)) xs (f - 1) cs) before) (value_complete d v h (omega (arith, k)) q.0)
      ∙ ap (λ z. with_next t (next_front n 93 z) >>= with_part (λ xs cs. parts n (λ ys zs. item n (value n d zs)) xs (f - 1) cs) before) e
  items_complete {n = n} d before f (one_item bs later cs rest t ts v e o) h i k q =
      parts_step n (λ xs cs. item n (value n d cs)) before f bs (omega (arith, i))
      ∙ ap (λ r. item n r >>= with_part (λ xs cs. parts n (λ ys zs. item n (value n d zs)) xs (f - 1) cs) before) (value_complete d v h (omega (arith, k)) q.0)
      ∙ ap (λ z. with_next t (next_front n 93 z) >>= with_part (λ xs cs. parts n (λ ys zs. item n (value n d zs)) xs (f - 1) cs) before) e
      ∙ items_complete d (before ++ t ∷ []) (f - 1) o (omega (arith, h, value_less v, after_less later cs [] 44 e, ahead_le (white_ahead cs))) (omega (arith, i, value_less v, after_less later cs [] 44 e, ahead_le (white_ahead cs))) (omega (arith, k)) q.1
      ∙ ap (λ z. Ok (z, rest)) (append_assoc before (t ∷ []) (list_of ts))

  pub pairs_complete : {n : ℕ} {bs : List ℕ} {ms : Members} {rest : List ℕ} (d : ℕ) (before : List (List ℕ × Tree)) (f : ℕ) → Pairs n bs ms rest → length bs ≤ n → length bs < f → members_depth ms ≤ d → AreDistinctMembers ms → HasNewNames (names_of before) ms → parts n (λ xs cs. pair n (value n d) (named (names_of xs)) cs) before f bs ≡ Ok (before ++ pairs_of ms, rest)
  pairs_complete {n = n} d before f (last_pair bs x mark start later rest t m e v j) h i k q w =
      parts_step n (λ xs cs. pair n (value n d) (named (names_of xs)) cs) before f (34 ∷ bs) (omega (arith, i))
      ∙ ap (λ r. (r >>= λ x. labelled n x.0 (value n d x.1)) >>= with_part (λ xs cs. parts n (λ ys zs. pair n (value n d) (named (names_of ys)) zs) xs (f - 1) cs) before) (label_complete n (named (names_of before)) start m e w.0)
      ∙ ap (λ r. labelled n x r >>= with_part (λ xs cs. parts n (λ ys zs. pair n (value n d) (named (names_of ys)) zs) xs (f - 1) cs) before) (value_complete d v (omega (arith, h, text_less m, after_less mark start [] 58 e, ahead_le (white_ahead start))) (omega (arith, k)) q.0)
      ∙ ap (λ z. with_next (x, t) (next_front n 125 z) >>= with_part (λ xs cs. parts n (λ ys zs. pair n (value n d) (named (names_of ys)) zs) xs (f - 1) cs) before) j
  pairs_complete {n = n} d before f (one_pair bs x mark start later cs rest t ms m e v j o) h i k q w =
      let P : List (List ℕ) → Type 0 = λ z. HasNewNames z ms in
      parts_step n (λ xs cs. pair n (value n d) (named (names_of xs)) cs) before f (34 ∷ bs) (omega (arith, i))
      ∙ ap (λ r. (r >>= λ x. labelled n x.0 (value n d x.1)) >>= with_part (λ xs cs. parts n (λ ys zs. pair n (value n d) (named (names_of ys)) zs) xs (f - 1) cs) before) (label_complete n (named (names_of before)) start m e w.0)
      ∙ ap (λ r. labelled n x r >>= with_part (λ xs cs. parts n (λ ys zs. pair n (value n d) (named (names_of ys)) zs) xs (f - 1) cs) before) (value_complete d v (omega (arith, h, text_less m, after_less mark start [] 58 e, ahead_le (white_ahead start))) (omega (arith, k)) q.0)
      ∙ ap (λ z. with_next (x, t) (next_front n 125 z) >>= with_part (λ xs cs. parts n (λ ys zs. pair n (value n d) (named (names_of ys)) zs) xs (f - 1) cs) before) j
      ∙ pairs_complete d (before ++ (x, t) ∷ []) (f - 1) o (omega (arith, h, text_less m, after_less mark start [] 58 e, ahead_le (white_ahead start), value_less v, after_less later cs [] 44 j, ahead_le (white_ahead cs))) (omega (arith, i, text_less m, after_less mark start [] 58 e, ahead_le (white_ahead start), value_less v, after_less later cs [] 44 j, ahead_le (white_ahead cs))) (omega (arith, k)) q.1 (subst P (sym (names_push before x t)) w.1)
      ∙ ap (λ z. Ok (z, rest)) (append_assoc before ((x, t) ∷ []) (pairs_of ms))

pub document_complete : (bs : List ℕ) (t : Tree) → IsText bs t → depth t ≤ 64 → IsDistinct t → document bs ≡ Ok t
document_complete bs t d h q =
    ap (λ r. r >>= λ r. end_at (length bs) r.0 (after_white r.1)) (value_complete 64 d.value (ahead_le (white_ahead bs)) h q)
    ∙ ap (end_at (length bs) t) d.ended
