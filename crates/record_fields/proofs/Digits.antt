-- The number of some digits, and texts that are UTF-8.
use Rattle.std.proofs.Common.{◌≡◌, ℕ, suc, ◌+◌, ◌-◌, ◌*◌, ◌<◌, ◌≤◌, List, [], ◌∷◌, length, drop, get_or, Some, None, arith, drop-cons, ap, sym, ◌∙◌, IsUtf8, eq-eqb, nat_eq, true, cond}
use Rattle.std.proofs.lemmas.Str.{utf8_valid_len-IsUtf8}
use Rattle.std.specs.Str.Lossy.{utf8_valid_len}
use Rattle.record_fields.specs.Coding.{is_utf8, text_of}
use Rattle.record_fields.specs.Numbers.{read_on}

-- going on, a number does not fall
pub read_on_grows : (n : ℕ) (digits : List ℕ) → n ≤ read_on n digits
read_on_grows n [] = omega arith
read_on_grows n (digit ∷ digits) = omega (arith, read_on_grows (n * 10 + (digit - 48)) digits)

-- with one digit more, it is at least so much
pub read_on_more : (n i : ℕ) (digits : List ℕ) → i < length digits → n * 10 + (get_or digits i 0 - 48) ≤ read_on n (drop i digits)
read_on_more n i digits h =
    let e = drop-cons digits i 0 in
    rw e (read_on_grows (n * 10 + (get_or digits i 0 - 48)) (drop (suc i) digits))

pub if_utf8_is : (bytes text : List ℕ) → IsUtf8 bytes → text ≡ bytes → Some text ≡ text_of bytes
if_utf8_is bytes text h e =
    let test : nat_eq (utf8_valid_len bytes) (length bytes) ≡ true = eq-eqb (utf8_valid_len bytes) (length bytes) (utf8_valid_len-IsUtf8 bytes h) in
    ap (λ t. Some t) e ∙ sym (ap (λ b. cond b (Some bytes) None) test)

-- bytes that are UTF-8 are told so
pub is_utf8_is : (bytes : List ℕ) → IsUtf8 bytes → true ≡ is_utf8 bytes
is_utf8_is bytes h = sym (eq-eqb (utf8_valid_len bytes) (length bytes) (utf8_valid_len-IsUtf8 bytes h))
