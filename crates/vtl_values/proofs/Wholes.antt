-- Whole numbers within the range of 64 signed bits.
use Rattle.std.proofs.Common.{◌≡◌, ◌^◌, ℤ, pos, negsuc, Bool, true, false, Option, Some, None, refl, sym, ap, ◌∙◌}
use Rattle.std.specs.Prelude.{nat_lt, SomeIff, FitsSigned, int_div, if◌then◌else◌}
use Rattle.std.specs.Int.{w64, CanDivide, IsNonZero}
use Rattle.std.proofs.lemmas.Bool.{ltb-true, lt-ltb}
use Rattle.vtl_values.specs.Val.{null, whole}
use Rattle.vtl_values.specs.Operations.{in_range, whole_or_null}

pub in_range_yes : (n : ℤ) → FitsSigned w64 n → in_range n ≡ whole n
in_range_yes (pos n) h = ap (λ b. if b then whole (pos n) else null) (lt-ltb n (2 ^ 63) h.sfits)
in_range_yes (negsuc n) h = ap (λ b. if b then whole (negsuc n) else null) (lt-ltb n (2 ^ 63) h.sfits)

pub in_range_no : (n : ℤ) → ¬ FitsSigned w64 n → in_range n ≡ null
in_range_no (pos n) h = go (nat_lt n (2 ^ 63)) refl
  where
    go : (b : Bool) → nat_lt n (2 ^ 63) ≡ b → (if b then whole (pos n) else null) ≡ null
    go true e = absurd (h (record { sfits = ltb-true n (2 ^ 63) e }))
    go false e = refl
in_range_no (negsuc n) h = go (nat_lt n (2 ^ 63)) refl
  where
    go : (b : Bool) → nat_lt n (2 ^ 63) ≡ b → (if b then whole (negsuc n) else null) ≡ null
    go true e = absurd (h (record { sfits = ltb-true n (2 ^ 63) e }))
    go false e = refl

-- what was computed where it fits
pub checked_whole : (o : Option ℤ) (n : ℤ) → SomeIff o (FitsSigned w64 n) n → whole_or_null o ≡ in_range n
checked_whole (Some m) n h = ap whole h.1 ∙ sym (in_range_yes n h.0)
checked_whole None n h = sym (in_range_no n h)

pub divided_whole : (o : Option ℤ) (x y : ℤ) → IsNonZero w64 y → SomeIff o (CanDivide w64 x y) (int_div x y) → whole_or_null o ≡ in_range (int_div x y)
divided_whole (Some m) x y nonzero h = ap whole h.1 ∙ sym (in_range_yes (int_div x y) h.0.1)
divided_whole None x y nonzero h = sym (in_range_no (int_div x y) (λ fits. h (nonzero, fits)))
