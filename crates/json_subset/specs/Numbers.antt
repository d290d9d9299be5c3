-- What a number is, by its source text (RFC 8259, section 6).
use Rattle.std.specs.Prelude.{ℕ, ◌+◌, ◌-◌, ◌*◌, Bool, true, false, ◌&&◌, ◌||◌, not, List, [], ◌∷◌, length, take, drop, nat_le, nat_lt, ◌==◌, if◌then◌else◌, ℤ, pos, neg_ℤ}
use Rattle.json_subset.specs.Tree.{Number, whole, decimal, wide}
use Rattle.json_subset.specs.Scan.{is_digit, unsigned}

abbrev pub is_negative : List ℕ → Bool
is_negative [] = false
is_negative (b ∷ bs) = b == 45

-- how many digits stand at the front
abbrev pub digits_len : List ℕ → ℕ
digits_len [] = 0
digits_len (b ∷ bs) = if is_digit b then digits_len bs + 1 else 0

-- the number that these digits spell behind m
abbrev pub value_from : ℕ → List ℕ → ℕ
value_from m [] = m
value_from m (d ∷ ds) = value_from (m * 10 + (d - 48)) ds

abbrev pub signed : Bool → ℕ → ℤ
signed negative m = if negative then neg_ℤ (pos m) else pos m

-- whether the number lies from -2^63 to 2^63 - 1
abbrev pub fits : Bool → ℕ → Bool
fits negative m = if negative then nat_le m 9223372036854775808 else nat_lt m 9223372036854775808

abbrev pub whole_or_wide : Bool → ℕ → Number
whole_or_wide negative m = if fits negative m then whole (signed negative m) else wide

abbrev pub has_exponent : List ℕ → Bool
has_exponent [] = false
has_exponent (b ∷ bs) = if (b == 101) || (b == 69) then true else has_exponent bs

-- by the sign, the digits of the whole part, and what follows these
abbrev pub kind_by : Bool → List ℕ → List ℕ → Number
kind_by negative ds [] = whole_or_wide negative (value_from 0 ds)
kind_by negative ds (b ∷ bs) = if (b == 46) && not (has_exponent bs) && nat_le (length ds) 18 then decimal else wide

-- the digits of the whole part, without the sign, and what follows these
abbrev pub whole_digits : List ℕ → List ℕ
whole_digits source = take (digits_len (unsigned source)) (unsigned source)

abbrev pub behind_digits : List ℕ → List ℕ
behind_digits source = drop (digits_len (unsigned source)) (unsigned source)

abbrev pub number_of : List ℕ → Number
number_of source = kind_by (is_negative source) (whole_digits source) (behind_digits source)
