-- Posts that are spelled plainly: their name and their numbers stand for themselves.
use Rattle.std.proofs.Common.{◌≡◌, ℕ, ◌^◌, ◌<◌, ◌==◌, nat_le, nat_lt, Bool, true, false, not, ◌&&◌, cond, List, [], ◌∷◌, length, All, Option, Some, None, arith, refl, ap, sym, ◌∙◌, codes, subst}
use Rattle.std.specs.List.{list_all}
use Rattle.std.specs.Option.{option_and_then}
use Rattle.std.specs.Str.{bytes_eq}
use Rattle.std.proofs.lemmas.Bool.{agree_below, agree_below_at, and_parts, false_from_ne_true, not-false}
use Rattle.std.proofs.lemmas.Bool.Decides.{nat_tests}
use Rattle.std.proofs.lemmas.List.Elements.{All-cons, All-nil}
use Rattle.std.proofs.lemmas.Slice.Eq.{bytes_eq-Decides}
use Rattle.percent_encoding.specs.Percent.{percent_decode}
use Rattle.percent_encoding.specs.AsciiSet.{contains, should_percent_encode}
use Rattle.percent_encoding.proofs.AsciiSetLemmas.{kept_from_outside}
use Rattle.percent_encoding.proofs.PercentLemmas.{IsByte, percent_encode-nil, percent_encode_kept}
use Rattle.record_fields.specs.Coding.{decoded, all_decoded, before_all, parts_of, fields_of}
use Rattle.record_fields.specs.Numbers.{is_decimal, number_of, read_on}
use Rattle.record_fields.specs.Writing.{coded}
use Rattle.record_fields.specs.declared.coding.TheConstants.{CODED}
use Rattle.record_fields.proofs.Coded.{decoded_coded}
use Rattle.script_records.specs.Records.{record_in, record_in_fields, record_of, post_record, post_by}

decimal_is_kept : agree_below (λ b. is_decimal b && contains CODED b) (λ b. false) 128 ≡ true
decimal_is_kept = refl

-- a digit is not coded
kept : (b : ℕ) → is_decimal b ≡ true → should_percent_encode CODED b ≡ false
kept b is =
    let small : b < 128 = grind (arith, nat_tests) in
    kept_from_outside CODED b small (outside (is_decimal b) (contains CODED b) is (agree_below_at (λ c. is_decimal c && contains CODED c) (λ c. false) 128 b decimal_is_kept small))
  where
    outside : (digit inside : Bool) → digit ≡ true → (digit && inside) ≡ false → inside ≡ false
    outside true inside is none = none
    outside false inside is none = absurd cc

-- digits are coded as themselves
coded_digits : (digits : List ℕ) → list_all is_decimal digits ≡ true → coded digits ≡ digits
coded_digits [] is = percent_encode-nil CODED
coded_digits (b ∷ digits) is =
    let both = and_parts (is_decimal b) (list_all is_decimal digits) is in
    percent_encode_kept CODED b digits (kept b both.0) ∙ ap (λ t. b ∷ t) (coded_digits digits both.1)

bytes_of_digits : (digits : List ℕ) → list_all is_decimal digits ≡ true → All IsByte digits
bytes_of_digits [] is = All-nil IsByte
bytes_of_digits (b ∷ digits) is =
    let both = and_parts (is_decimal b) (list_all is_decimal digits) is in
    let digit : is_decimal b ≡ true = both.0 in
    All-cons IsByte b digits (grind (arith, nat_tests)) (bytes_of_digits digits both.1)

-- digits are no `~`
no_tilde : (digits : List ℕ) → list_all is_decimal digits ≡ true → digits ≡ 126 ∷ [] → ⊥
no_tilde digits is same = never (subst (λ (t : List ℕ). list_all is_decimal t ≡ true) same is)
  where
    never : list_all is_decimal (126 ∷ []) ≡ true → ⊥
    never e = absurd cc

-- digits stand for themselves
decoded_digits : (digits : List ℕ) → list_all is_decimal digits ≡ true → 0 < length digits → decoded digits ≡ Some digits
decoded_digits digits is any =
    let same = coded_digits digits is in
    let other = false_from_ne_true (bytes_eq (coded digits) (126 ∷ [])) (λ e. no_tilde digits is (sym same ∙ (bytes_eq-Decides (coded digits) (126 ∷ [])).0 e)) in
    ap decoded (sym same) ∙ decoded_coded digits (bytes_of_digits digits is) other any

-- the field of a number stands for itself
decoded_number : (bits : ℕ) (field : List ℕ) (n : ℕ) → number_of bits field ≡ Some n → decoded field ≡ Some field
unfolding number_of
decoded_number bits field n is = go (not (length field == 0)) (nat_le (length field) 20) (list_all is_decimal field) (nat_lt (read_on 0 field) (2 ^ bits)) refl refl is
  where
    go : (any few digits fits : Bool) → not (length field == 0) ≡ any → list_all is_decimal field ≡ digits
        → cond (any && few && digits && fits) (Some (read_on 0 field)) None ≡ Some n → decoded field ≡ Some field
    go true true true true some all e = decoded_digits field all (grind (arith, nat_tests))
    go true true true false some all e = absurd cc
    go true true false fits some all e = absurd cc
    go true false digits fits some all e = absurd cc
    go false few digits fits some all e = absurd cc

decoded_post : decoded (codes "post") ≡ Some (codes "post")
unfolding decoded percent_decode
decoded_post = refl

-- a post of such fields, by their number
by_fields : (m w : List ℕ) (moment word : ℕ) → number_of 64 m ≡ Some moment → number_of 64 w ≡ Some word → (fields : Option (List (List ℕ)))
    → record_in_fields (before_all (codes "post") (before_all m (before_all w fields))) ≡ post_by moment word fields
unfolding record_of post_record
by_fields m w moment word first second None = refl
by_fields m w moment word first second (Some []) = refl
by_fields m w moment word first second (Some (a ∷ [])) = refl
by_fields m w moment word first second (Some (a ∷ s ∷ [])) = refl
by_fields m w moment word first second (Some (a ∷ s ∷ b ∷ [])) = rw first (rw second refl)
by_fields m w moment word first second (Some (a ∷ s ∷ b ∷ c ∷ more)) = refl

-- a name that was compared is this word
pub named : (name word : List ℕ) → false ≡ not (bytes_eq name word) → word ≡ codes "post" → name ≡ codes "post"
named name word same is = (bytes_eq-Decides name word).0 (not-false (bytes_eq name word) (sym same)) ∙ is

-- the record of a line whose first part is `post`, and whose next two are numbers
pub plain_post : (line name m w one two rest : List ℕ) (moment word : ℕ)
    → parts_of line ≡ name ∷ parts_of one → name ≡ codes "post" → parts_of one ≡ m ∷ parts_of two → parts_of two ≡ w ∷ parts_of rest
    → number_of 64 m ≡ Some moment → number_of 64 w ≡ Some word → record_in line ≡ post_by moment word (fields_of rest)
plain_post line name m w one two rest moment word first named second third moments words =
    let parts : parts_of line ≡ codes "post" ∷ m ∷ w ∷ parts_of rest = first ∙ ap (λ t. t ∷ parts_of one) named ∙ ap (λ l. codes "post" ∷ l) (second ∙ ap (λ l. m ∷ l) third) in
    let all : fields_of line ≡ before_all (codes "post") (before_all m (before_all w (fields_of rest))) =
    ap all_decoded parts
    ∙ ap (option_and_then (λ field. before_all field (all_decoded (m ∷ w ∷ parts_of rest)))) decoded_post
    ∙ ap (λ d. before_all (codes "post") (option_and_then (λ field. before_all field (all_decoded (w ∷ parts_of rest))) d)) (decoded_number 64 m moment moments)
    ∙ ap (λ d. before_all (codes "post") (before_all m (option_and_then (λ field. before_all field (fields_of rest)) d))) (decoded_number 64 w word words) in
    ap record_in_fields all ∙ by_fields m w moment word moments words (fields_of rest)
