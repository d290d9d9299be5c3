-- What a `$ref` names.
use Rattle.std.proofs.Common.{◌≡◌, ℕ, ◌<◌, ◌≤◌, ◌⊎◌, inl, inr, zero, suc, List, [], ◌∷◌, map, length, get_or, Bool, true, false, Option, Some, None, Result, Ok, Err, refl, ap, ◌∙◌, arith}
use Rattle.std.specs.Prelude.{if◌then◌else◌, String, nat_le, ◌&&◌, ◌||◌, ◌==◌}
use Rattle.std.specs.Str.{bytes_eq}
use Rattle.std.specs.String.{string_bytes}
use Rattle.std.specs.declared.alloc.Global.{Global}
use Rattle.std.proofs.lemmas.Bool.Decides.{nat_tests}
use Rattle.json_subset.specs.Numbered.{number_named}
use Rattle.schema_draft4.specs.Reading.{Fault, ref_missing, target_of, is_letter_or_digit, is_inner, are_inner, is_name}
use Rattle.schema_rules.specs.Rules.{Rule, refer}
use Rattle.schema_rules.specs.Views.{named_schema}

from_number : List ℕ → Option ℕ → Result (List Rule) Fault
from_number q None = Err (ref_missing q)
from_number q (Some t) = Ok (refer t ∷ [])

target_is : (ms : List (String Global × ℕ)) (q : List ℕ) → target_of (map named_schema ms) q ≡ from_number q (number_named ms q)
unfolding from_number
target_is [] q = refl
target_is (m ∷ ms) q = go (bytes_eq (string_bytes m.0) q) _ _ (target_is ms q)
  where
    go : (b : Bool) (r : Result (List Rule) Fault) (o : Option ℕ) → r ≡ from_number q o → (if b then Ok (refer m.1 ∷ []) else r) ≡ from_number q (if b then Some m.1 else o)
    go true r o e = refl
    go false r o e = e

pub target_found : (ms : List (String Global × ℕ)) (q : List ℕ) (t : ℕ) → number_named ms q ≡ Some t → target_of (map named_schema ms) q ≡ Ok (refer t ∷ [])
unfolding from_number
target_found ms q t e = target_is ms q ∙ ap (from_number q) e

pub target_missing : (ms : List (String Global × ℕ)) (q : List ℕ) → number_named ms q ≡ None → target_of (map named_schema ms) q ≡ Err (ref_missing q)
unfolding from_number
target_missing ms q e = target_is ms q ∙ ap (from_number q) e

and_left : (a b : Bool) → (a && b) ≡ true → a ≡ true
and_left true b e = refl
and_left false b e = e

and_right : (a b : Bool) → (a && b) ≡ true → b ≡ true
and_right true b e = e
and_right false b e = absurd cc

or_cases : (a b : Bool) → (a || b) ≡ true → (a ≡ true) ⊎ (b ≡ true)
or_cases true b e = inl refl
or_cases false b e = inr e

le_of : (a b : ℕ) → nat_le a b ≡ true → a ≤ b
le_of a b e = grind (arith, nat_tests)

letter_ascii : (b : ℕ) → is_letter_or_digit b ≡ true → b < 128
letter_ascii b e = go (or_cases ((nat_le 48 b && nat_le b 57) || (nat_le 65 b && nat_le b 90)) (nat_le 97 b && nat_le b 122) e)
  where
    low : (a n : ℕ) → n < 128 → (nat_le a b && nat_le b n) ≡ true → b < 128
    low a n h f = let le = le_of b n (and_right (nat_le a b) (nat_le b n) f) in omega (arith, h, le)

    two : ((nat_le 48 b && nat_le b 57) ≡ true) ⊎ ((nat_le 65 b && nat_le b 90) ≡ true) → b < 128
    two (inl f) = low 48 57 (omega arith) f
    two (inr f) = low 65 90 (omega arith) f

    go : (((nat_le 48 b && nat_le b 57) || (nat_le 65 b && nat_le b 90)) ≡ true) ⊎ ((nat_le 97 b && nat_le b 122) ≡ true) → b < 128
    go (inl f) = two (or_cases (nat_le 48 b && nat_le b 57) (nat_le 65 b && nat_le b 90) f)
    go (inr f) = low 97 122 (omega arith) f

same_of : (a b : ℕ) → (a == b) ≡ true → a ≡ b
same_of a b e = grind (arith, nat_tests)

inner_ascii : (b : ℕ) → is_inner b ≡ true → b < 128
inner_ascii b e = go (or_cases (is_letter_or_digit b || (b == 95)) (b == 45) e)
  where
    two : (is_letter_or_digit b ≡ true) ⊎ ((b == 95) ≡ true) → b < 128
    two (inl f) = letter_ascii b f
    two (inr f) = let same = same_of b 95 f in omega (arith, same)

    go : ((is_letter_or_digit b || (b == 95)) ≡ true) ⊎ ((b == 45) ≡ true) → b < 128
    go (inl f) = two (or_cases (is_letter_or_digit b) (b == 95) f)
    go (inr f) = let same = same_of b 45 f in omega (arith, same)

all_ascii : (bs : List ℕ) → are_inner bs ≡ true → (k : ℕ) → get_or bs k 0 < 128
all_ascii [] e k = omega arith
all_ascii (b ∷ bs) e k = go (is_inner b) refl e k (λ f j. all_ascii bs f j)
  where
    go : (c : Bool) → is_inner b ≡ c → (if c then are_inner bs else false) ≡ true → (k : ℕ) → (are_inner bs ≡ true → (j : ℕ) → get_or bs j 0 < 128) → get_or (b ∷ bs) k 0 < 128
    go true is e zero rest = inner_ascii b is
    go true is e (suc k) rest = rest e k
    go false is e k rest = absurd cc

pub name_ascii : (bs : List ℕ) → is_name bs ≡ true → (k : ℕ) → get_or bs k 0 < 128
name_ascii [] e k = absurd cc
name_ascii (b ∷ bs) e zero = letter_ascii b (and_left (is_letter_or_digit b) (are_inner bs) (and_left (is_letter_or_digit b && are_inner bs) (nat_le (length bs) 63) e))
name_ascii (b ∷ bs) e (suc k) = all_ascii bs (and_right (is_letter_or_digit b) (are_inner bs) (and_left (is_letter_or_digit b && are_inner bs) (nat_le (length bs) 63) e)) k
