-- What is left behind a part of the grammar: shorter, and cut between characters.
use Rattle.std.proofs.Common.{◌≡◌, ℕ, ◌<◌, ◌≤◌, List, [], ◌∷◌, ◌++◌, length, Bool, true, false, refl, sym, ap, ◌∙◌, subst, arith, append_assoc, append-nil}
use Rattle.std.specs.Prelude.{if◌then◌else◌}
use Rattle.std.specs.Char.{encode_utf8, IsScalar}
use Rattle.std.specs.Str.{IsUtf8}
use Rattle.std.proofs.lemmas.Str.{IsUtf8-append, IsUtf8-encode, encode_ascii}
use Rattle.std.proofs.lemmas.Bool.Decides.{nat_tests}
use Rattle.json_subset.specs.Scan.{is_white, after_white}
use Rattle.json_subset.specs.Strings.{four, pair_char}
use Rattle.json_subset.specs.Places.{IsRest}
use Rattle.json_subset.specs.Grammar as g
use Rattle.json_subset.specs.Grammar.{Digits, last_digit, one_digit, Whole, zero_alone, not_from_zero, Fraction, no_fraction, Exponent, no_exponent, signed_exponent, is_e, is_sign, Numeral, positive, negative, Unit16, four_digits, IsSurrogate, IsHigh, IsLow, Text, text_end, text_plain, text_short, text_unit, text_pair}
use Rattle.json_subset.proofs.Choices.{digit_byte, white_byte, hex_ascii, short_ascii}
use Rattle.json_subset.proofs.Cut.{utf8_tail, utf8_front, utf8_back}

-- ASCII bytes, and what follows them
pub data Ahead : List ℕ → List ℕ → Type 0 where
  here : (bs : List ℕ) → Ahead bs bs
  past_byte : (b : ℕ) (bs rest : List ℕ) → b < 128 → Ahead bs rest → Ahead (b ∷ bs) rest

pub ahead_more : {a b c : List ℕ} → Ahead a b → Ahead b c → Ahead a c
ahead_more (here bs) q = q
ahead_more (past_byte b bs rest h p) q = past_byte b bs _ h (ahead_more p q)

pub ahead_le : {a b : List ℕ} → Ahead a b → length b ≤ length a
ahead_le (here bs) = omega arith
ahead_le (past_byte b bs rest h p) = omega (arith, ahead_le p)

pub ahead_utf8 : {a b : List ℕ} → Ahead a b → IsUtf8 a → IsUtf8 b
ahead_utf8 (here bs) u = u
ahead_utf8 (past_byte b bs rest h p) u = ahead_utf8 p (utf8_tail b bs h u)

pub ahead_front : {a b : List ℕ} → Ahead a b → (front : List ℕ) × (a ≡ front ++ b)
ahead_front (here bs) = ([], refl)
ahead_front (past_byte b bs rest h p) = let k = ahead_front p in (b ∷ k.0, ap (λ z. b ∷ z) k.1)

pub rest_ahead : {a b : List ℕ} → IsUtf8 a → Ahead a b → IsRest a b
rest_ahead u p = record { front = (ahead_front p).0; joined = (ahead_front p).1; utf8 = ahead_utf8 p u }

pub rest_more : {a b c : List ℕ} → IsRest a b → IsRest b c → IsRest a c
rest_more p q = record { front = p.front ++ q.front; joined = p.joined ∙ ap (λ z. p.front ++ z) q.joined ∙ sym (append_assoc p.front q.front _); utf8 = q.utf8 }

pub white_ahead : (bs : List ℕ) → Ahead bs (after_white bs)
white_ahead [] = here []
white_ahead (b ∷ bs) = go (white_ahead bs) (is_white b) refl
  where
    go : Ahead bs (after_white bs) → (v : Bool) → is_white b ≡ v → Ahead (b ∷ bs) (if v then after_white bs else b ∷ bs)
    go more true e = past_byte b bs (after_white bs) (let h = white_byte b e in omega (arith, h)) more
    go more false e = here (b ∷ bs)

pub digits_ahead : {bs rest : List ℕ} → Digits bs rest → Ahead bs rest
digits_ahead (last_digit b rest h k) = past_byte b rest rest (let e = digit_byte b h in omega (arith, e.1)) (here rest)
digits_ahead (one_digit b bs rest h d) = past_byte b bs rest (let e = digit_byte b h in omega (arith, e.1)) (digits_ahead d)

pub digits_less : {bs rest : List ℕ} → Digits bs rest → length rest < length bs
digits_less (last_digit b rest h k) = omega arith
digits_less (one_digit b bs rest h d) = omega (arith, digits_less d)

pub whole_ahead : {bs rest : List ℕ} → Whole bs rest → Ahead bs rest
whole_ahead (zero_alone rest) = past_byte 48 rest rest (omega arith) (here rest)
whole_ahead (not_from_zero b bs rest h d) = digits_ahead d

whole_less : {bs rest : List ℕ} → Whole bs rest → length rest < length bs
whole_less (zero_alone rest) = omega arith
whole_less (not_from_zero b bs rest h d) = digits_less d

pub fraction_ahead : {bs rest : List ℕ} → Fraction bs rest → Ahead bs rest
fraction_ahead (no_fraction bs h) = here bs
fraction_ahead (g.fraction bs rest d) = past_byte 46 bs rest (omega arith) (digits_ahead d)

e_ascii : (b : ℕ) → is_e b ≡ true → b < 128
e_ascii b h = grind (arith, nat_tests)

sign_ascii : (b : ℕ) → is_sign b ≡ true → b < 128
sign_ascii b h = grind (arith, nat_tests)

exponent_ahead : {bs rest : List ℕ} → Exponent bs rest → Ahead bs rest
exponent_ahead (no_exponent bs h) = here bs
exponent_ahead (g.exponent e bs rest h d) = past_byte e bs rest (e_ascii e h) (digits_ahead d)
exponent_ahead (signed_exponent e s bs rest h k d) = past_byte e (s ∷ bs) rest (e_ascii e h) (past_byte s bs rest (sign_ascii s k) (digits_ahead d))

pub number_ahead : {bs rest : List ℕ} → Numeral bs rest → Ahead bs rest
number_ahead (positive bs w f rest a b c) = ahead_more (whole_ahead a) (ahead_more (fraction_ahead b) (exponent_ahead c))
number_ahead (negative bs w f rest a b c) = past_byte 45 bs rest (omega arith) (ahead_more (whole_ahead a) (ahead_more (fraction_ahead b) (exponent_ahead c)))

pub number_less : {bs rest : List ℕ} → Numeral bs rest → length rest < length bs
number_less (positive bs w f rest a b c) = omega (arith, whole_less a, ahead_le (fraction_ahead b), ahead_le (exponent_ahead c))
number_less (negative bs w f rest a b c) = omega (arith, whole_less a, ahead_le (fraction_ahead b), ahead_le (exponent_ahead c))

pub unit_ahead : {bs rest : List ℕ} {u : ℕ} → Unit16 bs u rest → Ahead bs rest
unit_ahead (four_digits a b c d w x y z rest i j k l) =
    past_byte a _ rest (hex_ascii a w i).0 (past_byte b _ rest (hex_ascii b x j).0 (past_byte c _ rest (hex_ascii c y k).0 (past_byte d rest rest (hex_ascii d z l).0 (here rest))))

four_small : (w x y z : ℕ) → w < 16 → x < 16 → y < 16 → z < 16 → four w x y z < 65536
four_small w x y z a b c d = omega arith

unit_small : {bs rest : List ℕ} {u : ℕ} → Unit16 bs u rest → u < 65536
unit_small (four_digits a b c d w x y z rest i j k l) = four_small w x y z (hex_ascii a w i).1 (hex_ascii b x j).1 (hex_ascii c y k).1 (hex_ascii d z l).1

pub scalar_unit : (u : ℕ) → u < 65536 → (IsSurrogate u → ⊥) → IsScalar u
scalar_unit u h k = grind (arith, nat_tests)

pub scalar_pair : (u v : ℕ) → IsHigh u → IsLow v → IsScalar (pair_char u v)
scalar_pair u v h k = grind (arith, nat_tests)

pub text_less : {bs t rest : List ℕ} → Text bs t rest → length rest < length bs
text_less (text_end rest) = omega arith
text_less (text_plain b bs t rest h d) = omega (arith, text_less d)
text_less (text_short b c bs t rest e d) = omega (arith, text_less d)
text_less (text_unit u bs behind t rest e k d) = omega (arith, text_less d, ahead_le (unit_ahead e))
text_less (text_pair u v bs more behind t rest e h k l d) = omega (arith, text_less d, ahead_le (unit_ahead e), ahead_le (unit_ahead k))

pub text_front : {bs t rest : List ℕ} → Text bs t rest → (front : List ℕ) × (bs ≡ front ++ rest)
text_front (text_end rest) = (34 ∷ [], refl)
text_front (text_plain b bs t rest h d) = let k = text_front d in (b ∷ k.0, ap (λ z. b ∷ z) k.1)
text_front (text_short b c bs t rest e d) = let k = text_front d in (92 ∷ b ∷ k.0, ap (λ z. 92 ∷ b ∷ z) k.1)
text_front (text_unit u bs behind t rest e h d) =
    let j = ahead_front (unit_ahead e) in
    let k = text_front d in
    (92 ∷ 117 ∷ (j.0 ++ k.0), ap (λ z. 92 ∷ 117 ∷ z) (j.1 ∙ ap (λ z. j.0 ++ z) k.1 ∙ sym (append_assoc j.0 k.0 rest)))
text_front (text_pair u v bs more behind t rest e h m l d) =
    let i = ahead_front (unit_ahead e) in
    let j = ahead_front (unit_ahead m) in
    let k = text_front d in (
      92 ∷ 117 ∷ (i.0 ++ (92 ∷ 117 ∷ (j.0 ++ k.0))),
      ap (λ z. 92 ∷ 117 ∷ z) (i.1 ∙ ap (λ z. i.0 ++ (92 ∷ 117 ∷ z)) (j.1 ∙ ap (λ z. j.0 ++ z) k.1 ∙ sym (append_assoc j.0 k.0 rest)) ∙ sym (append_assoc i.0 (92 ∷ 117 ∷ (j.0 ++ k.0)) rest)),
    )

ascii_scalar : (c : ℕ) → c < 128 → IsScalar c
ascii_scalar c h = grind (arith, nat_tests)

pub one_utf8 : (c : ℕ) → c < 128 → IsUtf8 (c ∷ [])
one_utf8 c h = let P : List ℕ → Type 0 = IsUtf8 in subst P (encode_ascii c h) (IsUtf8-encode c (ascii_scalar c h))

-- the text and what follows it are cut between characters
pub text_utf8 : {bs t rest : List ℕ} (before : List ℕ) → Text bs t rest → IsUtf8 (before ++ bs) → IsUtf8 (before ++ t) × IsUtf8 rest
text_utf8 before (text_end rest) u =
    let P : List ℕ → Type 0 = IsUtf8 in
    (subst P (sym (append-nil before)) (utf8_front before 34 rest (omega arith) u), utf8_back before 34 rest (omega arith) u)
text_utf8 before (text_plain b bs t rest h d) u =
    let P : List ℕ → Type 0 = IsUtf8 in
    let k = text_utf8 (before ++ b ∷ []) d (subst P (sym (append_assoc before (b ∷ []) bs)) u) in
    (subst P (append_assoc before (b ∷ []) t) k.0, k.1)
text_utf8 before (text_short b c bs t rest e d) u =
    let P : List ℕ → Type 0 = IsUtf8 in
    let front = utf8_front before 92 (b ∷ bs) (omega arith) u in
    let back = utf8_tail b bs (short_ascii b c e).0 (utf8_back before 92 (b ∷ bs) (omega arith) u) in
    let added = IsUtf8-append before (c ∷ []) front (one_utf8 c (short_ascii b c e).1) in
    let k = text_utf8 (before ++ c ∷ []) d (IsUtf8-append (before ++ c ∷ []) bs added back) in
    (subst P (append_assoc before (c ∷ []) t) k.0, k.1)
text_utf8 before (text_unit v bs behind t rest e h d) u =
    let P : List ℕ → Type 0 = IsUtf8 in
    let front = utf8_front before 92 (117 ∷ bs) (omega arith) u in
    let back = ahead_utf8 (unit_ahead e) (utf8_tail 117 bs (omega arith) (utf8_back before 92 (117 ∷ bs) (omega arith) u)) in
    let added = IsUtf8-append before (encode_utf8 v) front (IsUtf8-encode v (scalar_unit v (unit_small e) h)) in
    let k = text_utf8 (before ++ encode_utf8 v) d (IsUtf8-append (before ++ encode_utf8 v) behind added back) in
    (subst P (append_assoc before (encode_utf8 v) t) k.0, k.1)
text_utf8 before (text_pair v w bs more behind t rest e h m l d) u =
    let P : List ℕ → Type 0 = IsUtf8 in
    let c : ℕ = pair_char v w in
    let front = utf8_front before 92 (117 ∷ bs) (omega arith) u in
    let middle = ahead_utf8 (unit_ahead e) (utf8_tail 117 bs (omega arith) (utf8_back before 92 (117 ∷ bs) (omega arith) u)) in
    let back = ahead_utf8 (unit_ahead m) (utf8_tail 117 more (omega arith) (utf8_tail 92 (117 ∷ more) (omega arith) middle)) in
    let added = IsUtf8-append before (encode_utf8 (pair_char v w)) front (IsUtf8-encode (pair_char v w) (scalar_pair v w h l)) in
    let k = text_utf8 (before ++ encode_utf8 (pair_char v w)) d (IsUtf8-append (before ++ encode_utf8 (pair_char v w)) behind added back) in
    (subst P (append_assoc before (encode_utf8 (pair_char v w)) t) k.0, k.1)
