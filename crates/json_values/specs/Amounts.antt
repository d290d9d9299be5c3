-- How large a number is, as far as a whole bound can tell.
use Rattle.std.specs.Prelude.{ℕ, ℤ, Bool, true, false, not, List, [], ◌∷◌, nat_lt, if◌then◌else◌}
use Rattle.std.specs.Ordering.{int_cmp}
use Rattle.std.specs.declared.cmp.Ordering.{Ordering}
use Rattle.std.specs.declared.cmp.Ordering.TheVariants.{Less, Equal, Greater}
use Rattle.json_subset.specs.Tree as tree
use Rattle.json_subset.specs.Numbers.{is_negative, value_from, whole_or_wide, whole_digits, behind_digits}
use Rattle.json_values.specs.declared.amount.Amount.{Amount}
use Rattle.json_values.specs.declared.amount.Amount.TheVariants.{At, Above, Below, Unknown}

-- some digit is not 0
abbrev pub some_digit : List ℕ → Bool
some_digit [] = false
some_digit (b ∷ bs) = if nat_lt 48 b then true else some_digit bs

-- by the sign, whether some digit of the fraction is not 0, and the whole part with its sign
abbrev pub beside : Bool → Bool → tree.Number → Amount
beside negative fraction (tree.whole z) = if fraction then (if negative then Below z else Above z) else At z
beside negative fraction tree.decimal = Unknown
beside negative fraction tree.wide = Unknown

-- a number with a fraction and no exponent, by its source
abbrev pub decimal_amount : List ℕ → Amount
decimal_amount s = beside (is_negative s) (some_digit (behind_digits s)) (whole_or_wide (is_negative s) (value_from 0 (whole_digits s)))

-- a number by its kind and its source
abbrev pub amount : tree.Number → List ℕ → Amount
amount (tree.whole z) s = At z
amount tree.decimal s = decimal_amount s
amount tree.wide s = Unknown

-- where a number at this distance from the bound passes a test that takes the bound itself unless it is sharp
abbrev pub passes : (Ordering → Bool) → Bool → Ordering → Bool
passes inside sharp Less = inside Less
passes inside sharp Equal = not sharp
passes inside sharp Greater = inside Greater

abbrev pub is_above : Ordering → Bool
is_above Less = false
is_above Equal = false
is_above Greater = true

abbrev pub is_below : Ordering → Bool
is_below Less = true
is_below Equal = false
is_below Greater = false

-- whether a number is at least the bound, or above it where that is sharp
abbrev pub at_least : ℤ → Bool → Amount → Bool
at_least bound sharp (At z) = passes is_above sharp (int_cmp z bound)
at_least bound sharp (Above z) = not (is_below (int_cmp z bound))
at_least bound sharp (Below z) = is_above (int_cmp z bound)
at_least bound sharp Unknown = false

-- whether a number is at most the bound, or below it where that is sharp
abbrev pub at_most : ℤ → Bool → Amount → Bool
at_most bound sharp (At z) = passes is_below sharp (int_cmp z bound)
at_most bound sharp (Above z) = is_below (int_cmp z bound)
at_most bound sharp (Below z) = not (is_above (int_cmp z bound))
at_most bound sharp Unknown = false
