-- Numbers.
use Rattle.std.specs.Prelude.{ℕ, ◌+◌, ◌-◌, ◌*◌, ◌^◌, ◌==◌, nat_lt, nat_le, Bool, not, ◌&&◌, List, [], ◌∷◌, length, Option, Some, None, if◌then◌else◌}
use Rattle.std.specs.List.{list_all}

abbrev pub is_decimal : ℕ → Bool
is_decimal b = nat_le 48 b && nat_le b 57

-- the number that digits go on to spell
abbrev pub read_on : ℕ → List ℕ → ℕ
read_on n [] = n
read_on n (digit ∷ digits) = read_on (n * 10 + (digit - 48)) digits

-- a number of 1 to 20 digits that fits so many bits
unfoldable pub number_of : ℕ → List ℕ → Option ℕ
number_of bits field =
    if not (length field == 0) && nat_le (length field) 20 && list_all is_decimal field && nat_lt (read_on 0 field) (2 ^ bits) then Some (read_on 0 field)
    else None
