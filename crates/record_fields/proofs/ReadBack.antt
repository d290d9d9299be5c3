-- Columns, read again.
use Rattle.std.proofs.Common.{◌≡◌, ℕ, suc, ◌+◌, ◌<◌, ◌==◌, nat_lt, Bool, true, false, not, cond, List, [], ◌∷◌, ◌++◌, length, get_or, take, drop, map, position, Option, Some, None, All, arith, refl, ap, sym, ◌∙◌}
use Rattle.std.specs.List.{list_all, position_or_len}
use Rattle.std.specs.Option.{option_and_then, option_map}
use Rattle.std.specs.Str.{bytes_eq}
use Rattle.std.proofs.Math.Seq.{take-append_seam, drop-append-add}
use Rattle.std.proofs.lemmas.Bool.{and_parts, cond-true, cond-false, false_from_ne_true, lt-ltb}
use Rattle.std.proofs.lemmas.Slice.Eq.{bytes_eq-Decides}
use Rattle.std.proofs.lemmas.List.{length-append}
use Rattle.std.proofs.lemmas.List.Elements.{All-cons, All-append}
use Rattle.percent_encoding.specs.Percent.{percent_decode}
use Rattle.percent_encoding.proofs.PercentLemmas.{IsByte, round_trip}
use Rattle.record_fields.specs.Coding.{decoded, all_decoded, before_all, fields_of, is_utf8, text_of}
use Rattle.record_fields.specs.Pairs.{parted, pair_of, pairs_of, before_each}
use Rattle.record_fields.specs.Columns.{pair_field, column, column_pairs, if_spelled, is_pair_of_texts, is_column_pair}
use Rattle.record_fields.specs.declared.coding.TheConstants.{CODED}
use Rattle.record_fields.proofs.Coded.{decoded_coded}
use Rattle.record_fields.proofs.Joined.{parts_of_column, plain_any, column_any}
use Rattle.record_fields.proofs.Utf8.{utf8_from_told, bytes_from_utf8}

-- what the field of a pair stands for
abbrev plain : List ℕ × List ℕ → List ℕ
plain pair = pair.0 ++ 61 ∷ pair.1

-- the facts of a column's pair
record IsPair (pair : List ℕ × List ℕ) : Type 0 where
  apart : list_all (λ b. not (b == 61)) pair.0 ≡ true
  name : is_utf8 pair.0 ≡ true
  value : is_utf8 pair.1 ≡ true

pair_facts : (pair : List ℕ × List ℕ) → is_column_pair pair ≡ true → IsPair pair
pair_facts pair is =
    let outer = and_parts (list_all (λ b. not (b == 61)) pair.0) (is_pair_of_texts pair) is in
    let inner = and_parts (is_utf8 pair.0) (is_utf8 pair.1) outer.1 in
    record { apart = outer.0; name = inner.0; value = inner.1 }

plain_bytes : (pair : List ℕ × List ℕ) → IsPair pair → All IsByte (plain pair)
plain_bytes pair is =
    All-append IsByte pair.0 (61 ∷ pair.1) (bytes_from_utf8 pair.0 (utf8_from_told pair.0 is.name))
    (All-cons IsByte 61 pair.1 (omega arith) (bytes_from_utf8 pair.1 (utf8_from_told pair.1 is.value)))

-- it is not the lone `~`
not_tilde : (name value : List ℕ) → name ++ 61 ∷ value ≡ 126 ∷ [] → ⊥
not_tilde [] value e =
    let first : get_or (61 ∷ value) 0 0 ≡ get_or (126 ∷ []) 0 0 = ap (λ bytes. get_or bytes 0 0) e in
    omega arith
not_tilde (b ∷ name) value e =
    let long = ap length e in
    let sum = length-append name (61 ∷ value) in
    omega arith

tilde_is : percent_decode (126 ∷ []) ≡ 126 ∷ []
unfolding percent_decode
tilde_is = refl

field_not_tilde : (pair : List ℕ × List ℕ) → All IsByte (plain pair) → bytes_eq (pair_field pair) (126 ∷ []) ≡ false
field_not_tilde pair small =
    false_from_ne_true (bytes_eq (pair_field pair) (126 ∷ []))
    (λ e. not_tilde pair.0 pair.1 (sym (round_trip CODED (plain pair) refl small) ∙ ap percent_decode ((bytes_eq-Decides (pair_field pair) (126 ∷ [])).0 e) ∙ tilde_is))

-- the field of a pair stands for name, `=` and value
field_decoded : (pair : List ℕ × List ℕ) → IsPair pair → decoded (pair_field pair) ≡ Some (plain pair)
field_decoded pair is =
    let small = plain_bytes pair is in
    decoded_coded (plain pair) small (field_not_tilde pair small) (plain_any pair.0 pair.1)

all_fields_decoded : (pairs : List (List ℕ × List ℕ)) → list_all is_column_pair pairs ≡ true → all_decoded (map pair_field pairs) ≡ Some (map plain pairs)
all_fields_decoded [] each = refl
all_fields_decoded (pair ∷ pairs) each =
    let both = and_parts (is_column_pair pair) (list_all is_column_pair pairs) each in
    ap (option_and_then (λ field. before_all field (all_decoded (map pair_field pairs)))) (field_decoded pair (pair_facts pair both.0))
    ∙ ap (before_all (plain pair)) (all_fields_decoded pairs both.1)

-- the first `=` stands behind the name
first_equals : (name value : List ℕ) → list_all (λ b. not (b == 61)) name ≡ true → position_or_len (λ b. b == 61) (name ++ 61 ∷ value) ≡ length name
first_equals [] value apart = refl
first_equals (b ∷ name) value apart =
    let both = and_parts (not (b == 61)) (list_all (λ b. not (b == 61)) name) apart in
    let more : 1 + length name ≡ suc (length name) = omega arith in
    cond-true (not (b == 61)) (1 + position_or_len (λ c. c == 61) (name ++ 61 ∷ value)) 0 both.0 ∙ ap (λ n. 1 + n) (first_equals name value both.1) ∙ more

plain_parted : (name value : List ℕ) → list_all (λ b. not (b == 61)) name ≡ true → parted (name ++ 61 ∷ value) ≡ Some (name, value)
plain_parted name value apart =
    let at = first_equals name value apart in
    let shorter : length name < length (name ++ 61 ∷ value) = grind (arith, length-append) in
    let found : position (λ b. b == 61) (name ++ 61 ∷ value) ≡ Some (length name) =
    ap (λ n. cond (nat_lt n (length (name ++ 61 ∷ value))) (Some n) None) at ∙ cond-true _ (Some (length name)) None (lt-ltb (length name) (length (name ++ 61 ∷ value)) shorter) in
    let front = take-append_seam name (61 ∷ value) in
    let back = drop-append-add name (61 ∷ value) 1 in
    ap (option_map (λ n. (take n (name ++ 61 ∷ value), drop (n + 1) (name ++ 61 ∷ value)))) found ∙ ap (λ x. Some (x, drop (length name + 1) (name ++ 61 ∷ value))) front ∙ ap (λ y. Some (name, y)) back

text_told : (text : List ℕ) → is_utf8 text ≡ true → text_of text ≡ Some text
text_told text is = cond-true (is_utf8 text) (Some text) None is

plain_pair : (pair : List ℕ × List ℕ) → IsPair pair → pair_of (plain pair) ≡ Some pair
plain_pair pair is =
    ap (option_and_then (λ p. option_and_then (λ name. option_map (λ value. (name, value)) (text_of p.1)) (text_of p.0))) (plain_parted pair.0 pair.1 is.apart)
    ∙ ap (option_and_then (λ name. option_map (λ value. (name, value)) (text_of pair.1))) (text_told pair.0 is.name)
    ∙ ap (option_map (λ value. (pair.0, value))) (text_told pair.1 is.value)

plain_pairs : (pairs : List (List ℕ × List ℕ)) → list_all is_column_pair pairs ≡ true → pairs_of (map plain pairs) ≡ Some pairs
plain_pairs [] each = refl
plain_pairs (pair ∷ pairs) each =
    let both = and_parts (is_column_pair pair) (list_all is_column_pair pairs) each in
    ap (option_and_then (λ p. before_each p (pairs_of (map plain pairs)))) (plain_pair pair (pair_facts pair both.0))
    ∙ ap (before_each pair) (plain_pairs pairs both.1)

-- a text that stands for pairs, and is their column, is read
read_of : (text : List ℕ) (fields : List (List ℕ)) (pairs : List (List ℕ × List ℕ)) → 0 < length text → fields_of text ≡ Some fields → pairs_of fields ≡ Some pairs → column pairs ≡ text → column_pairs text ≡ Some pairs
unfolding column_pairs
read_of [] fields pairs long read told is = absurd (omega arith)
read_of (b ∷ bs) fields pairs long read told is =
    ap (λ o. option_and_then (if_spelled (b ∷ bs)) (option_and_then pairs_of o)) read ∙ ap (option_and_then (if_spelled (b ∷ bs))) told
    ∙ cond-true (bytes_eq (column pairs) (b ∷ bs)) (Some pairs) None ((bytes_eq-Decides (column pairs) (b ∷ bs)).1 is)

none_read : column_pairs [] ≡ Some []
unfolding column_pairs
none_read = refl

-- the column of pairs of texts, whose names have no `=`, stands for just them
pub read_back : (pairs : List (List ℕ × List ℕ)) → list_all is_column_pair pairs ≡ true → column_pairs (column pairs) ≡ Some pairs
read_back [] each = none_read
read_back (pair ∷ pairs) each =
    let all = pair ∷ pairs in
    read_of (column all) (map plain all) all (column_any pair pairs) (ap all_decoded (parts_of_column pair pairs) ∙ all_fields_decoded all each) (plain_pairs all each) refl

spelled_so : (text : List ℕ) (read : Option (List (List ℕ × List ℕ))) (pairs : List (List ℕ × List ℕ)) → option_and_then (if_spelled text) read ≡ Some pairs → column pairs ≡ text
spelled_so text None pairs e = absurd (cc)
spelled_so text (Some found) pairs e = go (bytes_eq (column found) text) refl
  where
    go : (b : Bool) → bytes_eq (column found) text ≡ b → column pairs ≡ text
    go true is =
        let same : Some found ≡ Some pairs = sym (cond-true (bytes_eq (column found) text) (Some found) None is) ∙ e in
        let these : found ≡ pairs = cc in
        ap column (sym these) ∙ (bytes_eq-Decides (column found) text).0 is
    go false is =
        let never : None ≡ Some pairs = sym (cond-false (bytes_eq (column found) text) (Some found) None is) ∙ e in
        absurd (cc)

-- what stands for some pairs is their column
pub one_form : (text : List ℕ) (pairs : List (List ℕ × List ℕ)) → column_pairs text ≡ Some pairs → column pairs ≡ text
unfolding column_pairs
one_form [] pairs is = let these : [] ≡ pairs = cc in ap column (sym these)
one_form (b ∷ bs) pairs is = spelled_so (b ∷ bs) (option_and_then pairs_of (fields_of (b ∷ bs))) pairs is
