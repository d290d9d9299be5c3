-- Bytes that are told to be UTF-8.
use Rattle.std.proofs.Common.{◌≡◌, ℕ, zero, suc, ◌+◌, ◌/◌, ◌%◌, ◌<◌, ◌≤◌, true, false, ltb, List, [], ◌∷◌, length, take, All, IsUtf8, arith, sym, subst, ◌∙◌, refl, ⊎_elim}
use lib.Utf8.{scalar, scalars, scalar_cases, encode, encodes}
use Rattle.std.proofs.lemmas.Bool.{cond-false, cond_both, eqb-true, eq-eqb, ltb-true, and_parts}
use Rattle.std.proofs.lemmas.Bool.Decides.{nat_tests}
use Rattle.std.proofs.Math.Seq.{take-length}
use Rattle.std.proofs.lemmas.List.Elements.{All-nil, All-cons, All-append}
use Rattle.std.proofs.lemmas.Str.{IsUtf8-from_is_utf8, IsUtf8-nil, utf8_valid_len-IsUtf8}
use Rattle.std.specs.Str.{is_utf8 as is_utf8_of}
use Rattle.std.specs.Str.Lossy.{utf8_valid_len, valid_len_up_to}
use Rattle.percent_encoding.proofs.PercentLemmas.{IsByte}
use Rattle.record_fields.specs.Coding.{is_utf8}

valid_len_le : (bytes : List ℕ) (n : ℕ) → valid_len_up_to bytes n ≤ n
valid_len_le bytes zero = omega arith
valid_len_le bytes (suc n) =
    let shorter = valid_len_le bytes n in
    cond_both (is_utf8_of (take (suc n) bytes)) (suc n) (valid_len_up_to bytes n) (λ k. k ≤ suc n) (λ _. omega arith) (λ _. omega arith)

whole_is_utf8 : (bytes : List ℕ) (n : ℕ) → valid_len_up_to bytes (suc n) ≡ suc n → is_utf8_of (take (suc n) bytes) ≡ true
whole_is_utf8 bytes n whole = go (is_utf8_of (take (suc n) bytes)) refl
  where
    go : (b : _) → is_utf8_of (take (suc n) bytes) ≡ b → is_utf8_of (take (suc n) bytes) ≡ true
    go true e = e
    go false e =
        let shorter = valid_len_le bytes n in
        let less : valid_len_up_to bytes n ≡ suc n = sym (cond-false _ (suc n) (valid_len_up_to bytes n) e) ∙ whole in
        absurd (omega arith)

-- bytes that are told to be UTF-8 are so
pub utf8_from_told : (bytes : List ℕ) → is_utf8 bytes ≡ true → IsUtf8 bytes
unfolding utf8_valid_len
utf8_from_told [] told = IsUtf8-nil
utf8_from_told (b ∷ bytes) told =
    let n = length bytes in
    let whole : is_utf8_of (take (suc n) (b ∷ bytes)) ≡ true = whole_is_utf8 (b ∷ bytes) n (eqb-true (valid_len_up_to (b ∷ bytes) (suc n)) (suc n) told) in
    IsUtf8-from_is_utf8 (b ∷ bytes) (subst (λ t. is_utf8_of (b ∷ t) ≡ true) (take-length bytes) whole)

-- a character has bytes alone
encode_bytes : (c : ℕ) → scalar c ≡ true → All IsByte (encode c)
unfolding encode
encode_bytes c is =
    let small : c < 1114112 = ⊎_elim (λ h. omega arith) (λ h. h.1) (scalar_cases c is) in
    let last : IsByte (128 + c % 64) = omega arith in
    let second : IsByte (128 + c / 64 % 64) = omega arith in
    let third : IsByte (128 + c / 4096 % 64) = omega arith in
    let end = All-cons IsByte (128 + c % 64) [] last (All-nil IsByte) in
    let two = All-cons IsByte (128 + c / 64 % 64) ((128 + c % 64) ∷ []) second end in
    cond_both (ltb c 128) (c ∷ []) _ (All IsByte) (λ e. All-cons IsByte c [] (grind (arith, nat_tests)) (All-nil IsByte))
    (λ e. cond_both (ltb c 2048) ((192 + c / 64) ∷ (128 + c % 64) ∷ []) _ (All IsByte) (λ e2. All-cons IsByte (192 + c / 64) ((128 + c % 64) ∷ []) (let h = ltb-true c 2048 e2 in omega arith) end)
    (λ e2. cond_both (ltb c 65536) ((224 + c / 4096) ∷ (128 + c / 64 % 64) ∷ (128 + c % 64) ∷ []) ((240 + c / 262144) ∷ (128 + c / 4096 % 64) ∷ (128 + c / 64 % 64) ∷ (128 + c % 64) ∷ []) (All IsByte)
    (λ e3. All-cons IsByte (224 + c / 4096) ((128 + c / 64 % 64) ∷ (128 + c % 64) ∷ []) (let h = ltb-true c 65536 e3 in omega arith) two)
    (λ e3. All-cons IsByte (240 + c / 262144) ((128 + c / 4096 % 64) ∷ (128 + c / 64 % 64) ∷ (128 + c % 64) ∷ []) (omega arith) (All-cons IsByte (128 + c / 4096 % 64) ((128 + c / 64 % 64) ∷ (128 + c % 64) ∷ []) third two))))

encodes_bytes : (cs : List ℕ) → scalars cs ≡ true → All IsByte (encodes cs)
encodes_bytes [] are = All-nil IsByte
encodes_bytes (c ∷ cs) are =
    let both = and_parts (scalar c) (scalars cs) are in
    All-append IsByte (encode c) (encodes cs) (encode_bytes c both.0) (encodes_bytes cs both.1)

-- UTF-8 has bytes alone
pub bytes_from_utf8 : (bytes : List ℕ) → IsUtf8 bytes → All IsByte bytes
bytes_from_utf8 bytes utf8 = subst (All IsByte) utf8.1.1 (encodes_bytes utf8.0 utf8.1.0)

-- what a text lends is UTF-8, and so the text is told to be
pub told_utf8 : (text lent : List ℕ) → lent ≡ text → IsUtf8 lent → is_utf8 text ≡ true
told_utf8 text lent same utf8 = subst (λ t. is_utf8 t ≡ true) same (eq-eqb (utf8_valid_len lent) (length lent) (utf8_valid_len-IsUtf8 lent utf8))
