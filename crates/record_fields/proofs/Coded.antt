-- Coded bytes, read again.
use Rattle.std.proofs.Common.{◌≡◌, ℕ, ◌/◌, ◌%◌, ◌<◌, true, false, Bool, not, ◌&&◌, ◌||◌, ◌==◌, List, [], ◌∷◌, ◌++◌, length, All, Some, None, arith, ap, sym, ◌∙◌, refl, ⊎_elim}
use Rattle.std.specs.List.{list_all}
use Rattle.std.specs.Char.{is_digit}
use Rattle.std.specs.Fmt.{digit_glyph}
use Rattle.std.specs.Str.{bytes_eq}
use Rattle.std.proofs.lemmas.Bool.{agree_below, agree_below_at, or_parts, or_left, not-false, not_from_false, ne_eqb, cases_Bool, and_from, cond-true, cond-false}
use Rattle.std.proofs.lemmas.Bool.Decides.{nat_tests}
use Rattle.std.proofs.lemmas.List.Sums.{list_all-from_AllPass}
use Rattle.percent_encoding.specs.AsciiSet.{contains, should_percent_encode}
use Rattle.percent_encoding.specs.Percent.{percent_encode_byte, percent_decode}
use Rattle.percent_encoding.proofs.AsciiSetLemmas.{ascii_from_kept, outside_from_kept, kept_from_outside}
use Rattle.percent_encoding.proofs.PercentLemmas.{IsByte, IsEscapeByte, All-percent_encode, percent_encode-nil, percent_encode-append, percent_encode_escaped, percent_encode_kept, percent_encode_nonempty, round_trip}
use Rattle.record_fields.specs.Coding.{is_graphic, begins_hex, are_escapes, decoded}
use Rattle.record_fields.specs.Writing.{coded}
use Rattle.record_fields.specs.declared.coding.TheConstants.{CODED}

-- each byte outside 33 to 126, and `%`, is coded
abbrev is_coded : ℕ → Bool
is_coded b = not (is_graphic b) || b == 37

coded_are : agree_below (contains CODED) is_coded 128 ≡ true
coded_are = refl

-- what is kept is graphic, and no `%`
kept_is : (b : ℕ) → should_percent_encode CODED b ≡ false → (is_graphic b ≡ true) × ((b == 37) ≡ false)
kept_is b kept =
    let told : is_coded b ≡ false = sym (agree_below_at (contains CODED) is_coded 128 b coded_are (ascii_from_kept CODED b kept)) ∙ outside_from_kept CODED b kept in
    let parts = or_parts (not (is_graphic b)) (b == 37) told in
    (not-false (is_graphic b) parts.0, parts.1)

escape_is_graphic : (b : ℕ) → IsEscapeByte b → is_graphic b ≡ true
escape_is_graphic b is = grind (arith, nat_tests)

-- coded bytes are graphic
pub coded_graphic : (bytes : List ℕ) → list_all is_graphic (coded bytes) ≡ true
coded_graphic bytes = list_all-from_AllPass is_graphic (coded bytes) (All-percent_encode (λ b. is_graphic b ≡ true) CODED bytes (λ b kept. (kept_is b kept).0) escape_is_graphic)

-- and so they have no space
pub coded_no_space : (bytes : List ℕ) → All (λ b. (b == 32) ≡ false) (coded bytes)
coded_no_space bytes = All-percent_encode (λ b. (b == 32) ≡ false) CODED bytes (λ b kept. let g = (kept_is b kept).0 in grind (arith, nat_tests)) (λ b is. grind (arith, nat_tests))

glyph_is_digit : (d : ℕ) → d < 16 → is_digit (digit_glyph true d) 16 ≡ true
glyph_is_digit d small = grind (arith, nat_tests)

glyph_no_percent : (d : ℕ) → d < 16 → (digit_glyph true d == 37) ≡ false
glyph_no_percent d small = grind (arith, nat_tests)

kept_then : (b : ℕ) (rest : List ℕ) → (b == 37) ≡ false → are_escapes rest ≡ true → are_escapes (b ∷ rest) ≡ true
kept_then b rest apart after = and_from (not (b == 37) || begins_hex rest) (are_escapes rest) (or_left (not (b == 37)) (begins_hex rest) (not_from_false (b == 37) apart)) after

escape_then : (b : ℕ) (rest : List ℕ) → are_escapes rest ≡ true → are_escapes (percent_encode_byte b ++ rest) ≡ true
unfolding percent_encode_byte
escape_then b rest after =
    let high = glyph_is_digit (b / 16 % 16) (omega arith) in
    let low = glyph_is_digit (b % 16) (omega arith) in
    let last = kept_then (digit_glyph true (b % 16)) rest (glyph_no_percent (b % 16) (omega arith)) after in
    let both = kept_then (digit_glyph true (b / 16 % 16)) (digit_glyph true (b % 16) ∷ rest) (glyph_no_percent (b / 16 % 16) (omega arith)) last in
    and_from (is_digit (digit_glyph true (b / 16 % 16)) 16 && is_digit (digit_glyph true (b % 16)) 16) (are_escapes (digit_glyph true (b / 16 % 16) ∷ digit_glyph true (b % 16) ∷ rest)) (and_from _ _ high low) both

-- each `%` of coded bytes begins an escape
pub coded_escapes : (bytes : List ℕ) → are_escapes (coded bytes) ≡ true
coded_escapes [] = rw percent_encode-nil
coded_escapes (b ∷ bytes) =
    let after = coded_escapes bytes in
    ⊎_elim (λ e. rw (percent_encode_escaped CODED b bytes e) (escape_then b (coded bytes) after))
    (λ e. rw (percent_encode_kept CODED b bytes e) (kept_then b (coded bytes) (kept_is b e).1 after))
    (cases_Bool (should_percent_encode CODED b))

-- coded bytes stand for what they code, where they are not the lone `~`
pub decoded_coded : (bytes : List ℕ) → All IsByte bytes → bytes_eq (coded bytes) (126 ∷ []) ≡ false → 0 < length bytes → decoded (coded bytes) ≡ Some bytes
unfolding decoded
decoded_coded bytes small other any =
    let long : 0 < length (coded bytes) = percent_encode_nonempty CODED bytes any in
    let first : not (length (coded bytes) == 0) ≡ true = not_from_false (length (coded bytes) == 0) (ne_eqb (length (coded bytes)) 0 (λ e. omega arith)) in
    let form = and_from (not (length (coded bytes) == 0) && list_all is_graphic (coded bytes)) (are_escapes (coded bytes)) (and_from (not (length (coded bytes) == 0)) (list_all is_graphic (coded bytes)) first (coded_graphic bytes)) (coded_escapes bytes) in
    cond-false (bytes_eq (coded bytes) (126 ∷ [])) (Some []) _ other ∙ cond-true _ (Some (percent_decode (coded bytes))) None form ∙ ap (λ t. Some t) (round_trip CODED bytes refl small)

-- a part, `=` and another part
pub coded_pair : (name value : List ℕ) → coded (name ++ 61 ∷ value) ≡ coded name ++ 61 ∷ coded value
coded_pair name value = percent_encode-append CODED name (61 ∷ value) ∙ ap (λ t. coded name ++ t) (percent_encode_kept CODED 61 value (kept_from_outside CODED 61 (omega arith) refl))
