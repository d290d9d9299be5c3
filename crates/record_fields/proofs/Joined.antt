-- Fields joined by one space, and parted again.
use Rattle.std.proofs.Common.{◌≡◌, ℕ, ◌+◌, ◌<◌, ◌==◌, if◌then◌else◌, false, List, [], ◌∷◌, ◌++◌, length, take, get_or, map, arith, refl, ap, sym, ◌∙◌, append_assoc}
use Rattle.std.specs.List.{join_with_byte}
use Rattle.std.proofs.lemmas.List.Splits.{slice_split_none, slice_split_at}
use Rattle.std.proofs.lemmas.Bool.{cond-false, ne_eqb}
use Rattle.std.proofs.lemmas.List.{length-append, map-append, take_more}
use Rattle.percent_encoding.proofs.PercentLemmas.{percent_encode_nonempty}
use Rattle.record_fields.specs.Coding.{parts_of}
use Rattle.record_fields.specs.Columns.{pair_field, column}
use Rattle.record_fields.specs.Writing.{coded}
use Rattle.record_fields.specs.declared.coding.TheConstants.{CODED}
use Rattle.record_fields.proofs.Coded.{coded_no_space, coded_pair}

-- the parts of a column are the fields of its pairs
pub parts_of_column : (pair : List ℕ × List ℕ) (pairs : List (List ℕ × List ℕ)) → parts_of (column (pair ∷ pairs)) ≡ map pair_field (pair ∷ pairs)
parts_of_column pair [] = slice_split_none (λ b. b == 32) (pair_field pair) (coded_no_space (pair.0 ++ 61 ∷ pair.1))
parts_of_column pair (next ∷ pairs) =
    slice_split_at (λ b. b == 32) (pair_field pair) 32 (column (next ∷ pairs)) (coded_no_space (pair.0 ++ 61 ∷ pair.1)) refl
    ∙ ap (λ fields. pair_field pair ∷ fields) (parts_of_column next pairs)

-- no field is empty
pub plain_any : (name value : List ℕ) → 0 < length (name ++ 61 ∷ value)
plain_any name value = grind (arith, length-append)

-- nor is a column of some pairs
pub column_any : (pair : List ℕ × List ℕ) (pairs : List (List ℕ × List ℕ)) → 0 < length (column (pair ∷ pairs))
column_any pair [] = percent_encode_nonempty CODED (pair.0 ++ 61 ∷ pair.1) (plain_any pair.0 pair.1)
column_any pair (next ∷ pairs) =
    let first : 0 < length (pair_field pair) = percent_encode_nonempty CODED (pair.0 ++ 61 ∷ pair.1) (plain_any pair.0 pair.1) in
    let sum = length-append (pair_field pair) (32 ∷ column (next ∷ pairs)) in
    omega arith

-- what a field is written behind
abbrev pub spaced : List ℕ → List ℕ
spaced text = if length text == 0 then text else text ++ 32 ∷ []

join_push : (x : List ℕ) (xs : List (List ℕ)) (y : List ℕ) → join_with_byte 32 (x ∷ xs ++ y ∷ []) ≡ join_with_byte 32 (x ∷ xs) ++ (32 ∷ y)
join_push x [] y = refl
join_push x (z ∷ xs) y = ap (λ t. x ++ (32 ∷ t)) (join_push z xs y) ∙ sym (append_assoc x (32 ∷ join_with_byte 32 (z ∷ xs)) (32 ∷ y))

column_push : (pairs : List (List ℕ × List ℕ)) (pair : List ℕ × List ℕ) → spaced (column pairs) ++ pair_field pair ≡ column (pairs ++ pair ∷ [])
column_push [] pair = refl
column_push (first ∷ pairs) pair =
    let all = column (first ∷ pairs) in
    let long = column_any first pairs in
    let some : (length all == 0) ≡ false = ne_eqb (length all) 0 (λ e. omega arith) in
    ap (λ t. t ++ pair_field pair) (cond-false (length all == 0) all (all ++ 32 ∷ []) some) ∙ append_assoc all (32 ∷ []) (pair_field pair)
    ∙ sym (ap (join_with_byte 32) (map-append pair_field (first ∷ pairs) (pair ∷ [])) ∙ join_push (pair_field first) (map pair_field pairs) (pair_field pair))

-- a column and one more pair
pub column_more : (pairs : List (List ℕ × List ℕ)) (i : ℕ) (d : List ℕ × List ℕ) → i < length pairs → spaced (column (take i pairs)) ++ pair_field (get_or pairs i d) ≡ column (take (i + 1) pairs)
column_more pairs i d less = column_push (take i pairs) (get_or pairs i d) ∙ ap column (sym (take_more pairs i d less))

-- a name, `=` and a value, each behind what was written before
pub pair_written : (old name value first second third : List ℕ) → first ≡ old ++ coded name → second ≡ first ++ 61 ∷ [] → third ≡ second ++ coded value → third ≡ old ++ pair_field (name, value)
pair_written old name value first second third a b d =
    d ∙ ap (λ t. t ++ coded value) (b ∙ ap (λ t. t ++ 61 ∷ []) a) ∙ append_assoc (old ++ coded name) (61 ∷ []) (coded value) ∙ append_assoc old (coded name) (61 ∷ coded value)
    ∙ ap (λ t. old ++ t) (sym (coded_pair name value))
