-- What operators give.
use Rattle.std.specs.Prelude.{ℕ, ◌+◌, ◌^◌, ℤ, pos, negsuc, ◌+ℤ◌, ◌-ℤ◌, ◌*ℤ◌, int_div, int_rem, int_lt, int_le, Bool, true, false, not, ◌&&◌, ◌||◌, List, ◌++◌, length, nat_lt, Option, Some, None, if◌then◌else◌}
use Rattle.std.specs.Ordering.{int_eq}
use Rattle.std.specs.Str.{bytes_eq}
use Rattle.vtl_values.specs.Val.{Val, null, boolean, whole, text}
use Rattle.vtl_values.specs.Truth.{is_null}
use Rattle.vtl_values.specs.Kinds.{is_text}
use Rattle.vtl_values.specs.Printed.{printed}

-- in the range of 64 signed bits
abbrev pub is_i64 : ℤ → Bool
is_i64 (pos n) = nat_lt n (2 ^ 63)
is_i64 (negsuc n) = nat_lt n (2 ^ 63)

abbrev pub whole_or_null : Option ℤ → Val
whole_or_null None = null
whole_or_null (Some n) = whole n

-- the whole number, null where it is out of range
abbrev pub in_range : ℤ → Val
in_range n = if is_i64 n then whole n else null

-- this of two wholes; of any others that value
abbrev pub of_wholes : (ℤ → ℤ → Val) → Val → Val → Val → Val
of_wholes f other (whole a) (whole b) = f a b
of_wholes f other a b = other

-- a text on either side, and null on neither
abbrev pub join : Val → Val → Bool
join a b = (is_text a || is_text b) && not (is_null a || is_null b)

-- the printed texts of both, one behind the other
abbrev pub glued : Val → Val → Val
glued a b = if join a b then text (printed a ++ printed b) else null

unfoldable pub added : Val → Val → Val
added a b = of_wholes (λ x y. in_range (x +ℤ y)) (glued a b) a b

unfoldable pub subtracted : Val → Val → Val
subtracted a b = of_wholes (λ x y. in_range (x -ℤ y)) null a b

unfoldable pub multiplied : Val → Val → Val
multiplied a b = of_wholes (λ x y. in_range (x *ℤ y)) null a b

-- truncated toward 0
unfoldable pub divided : Val → Val → Val
divided a b = of_wholes (λ x y. if int_eq y (pos 0) then null else in_range (int_div x y)) null a b

-- with the sign of the dividend
unfoldable pub remaining : Val → Val → Val
remaining a b = of_wholes (λ x y. if int_eq y (pos 0) then null else whole (int_rem x y)) null a b

unfoldable pub less : Val → Val → Val
less a b = of_wholes (λ x y. boolean (int_lt x y)) null a b

unfoldable pub greater : Val → Val → Val
greater a b = of_wholes (λ x y. boolean (int_lt y x)) null a b

unfoldable pub at_most : Val → Val → Val
at_most a b = of_wholes (λ x y. boolean (int_le x y)) null a b

unfoldable pub at_least : Val → Val → Val
at_least a b = of_wholes (λ x y. boolean (int_le y x)) null a b

abbrev pub same_bool : Bool → Bool → Bool
same_bool true b = b
same_bool false b = not b

-- two wholes or two booleans by value, null with null alone; none where the printed texts decide
abbrev pub by_value : Val → Val → Option Bool
by_value null b = Some (is_null b)
by_value (whole a) (whole b) = Some (int_eq a b)
by_value (boolean a) (boolean b) = Some (same_bool a b)
by_value a null = Some false
by_value a b = None

abbrev pub decided : Option Bool → List ℕ → List ℕ → Bool
decided (Some e) s t = e
decided None s t = bytes_eq s t

abbrev pub looked_at : Option Bool → List ℕ → List ℕ → ℕ
looked_at (Some e) s t = 0
looked_at None s t = length s + length t

unfoldable pub are_equal : Val → Val → Bool
are_equal a b = decided (by_value a b) (printed a) (printed b)

-- the bytes of both texts, where the texts decide
unfoldable pub compared : Val → Val → ℕ
compared a b = looked_at (by_value a b) (printed a) (printed b)
