-- What stands at the front of the rest of a document of n bytes, or the fault that is met there.
use Rattle.std.specs.Prelude.{ℕ, ◌-◌, Bool, ◌&&◌, ◌||◌, List, [], ◌∷◌, length, Option, Some, None, Result, Ok, Err, nat_le, ◌==◌, if◌then◌else◌}
use Rattle.json_subset.specs.declared.fault.JsonFault.{JsonFault}
use Rattle.json_subset.specs.declared.fault.JsonFault.TheVariants.{Syntax}

infixl 10 ◌>>=◌
abbrev pub ◌>>=◌ : {A B : Type 0} → Result A JsonFault → (A → Result B JsonFault) → Result B JsonFault
(Ok x) >>= f = f x
(Err e) >>= f = Err e

-- a part, and what follows it
abbrev pub Read : Type 0 → Type 0
Read A = Result (A × List ℕ) JsonFault

-- the place of the front of bs
abbrev pub place : ℕ → List ℕ → ℕ
place n bs = n - length bs

-- white space: space, tab, line feed, carriage return (RFC 8259, section 2)
abbrev pub is_white : ℕ → Bool
is_white b = (b == 32) || (b == 9) || (b == 10) || (b == 13)

abbrev pub after_white : List ℕ → List ℕ
after_white [] = []
after_white (b ∷ bs) = if is_white b then after_white bs else b ∷ bs

-- what follows this byte, where it stands at the front
abbrev pub behind : ℕ → List ℕ → Option (List ℕ)
behind b [] = None
behind b (c ∷ bs) = if c == b then Some bs else None

-- what follows this word, of which each byte must stand (section 3)
abbrev pub word : ℕ → List ℕ → List ℕ → Result (List ℕ) JsonFault
word n [] bs = Ok bs
word n (c ∷ cs) [] = Err (Syntax n)
word n (c ∷ cs) (b ∷ bs) = if b == c then word n cs bs else Err (Syntax (place n (b ∷ bs)))

-- numbers (section 6)
abbrev pub is_digit : ℕ → Bool
is_digit b = nat_le 48 b && nat_le b 57

abbrev pub after_digits : List ℕ → List ℕ
after_digits [] = []
after_digits (b ∷ bs) = if is_digit b then after_digits bs else b ∷ bs

-- what follows one digit or more
abbrev pub some_digits : ℕ → List ℕ → Result (List ℕ) JsonFault
some_digits n [] = Err (Syntax n)
some_digits n (b ∷ bs) = if is_digit b then Ok (after_digits bs) else Err (Syntax (place n (b ∷ bs)))

abbrev pub unsigned : List ℕ → List ℕ
unsigned [] = []
unsigned (b ∷ bs) = if b == 45 then bs else b ∷ bs

-- a zero, or digits that do not begin with one
abbrev pub whole_part : ℕ → List ℕ → Result (List ℕ) JsonFault
whole_part n [] = Err (Syntax n)
whole_part n (b ∷ bs) = if b == 48 then Ok bs else some_digits n (b ∷ bs)

abbrev pub fraction : ℕ → List ℕ → Result (List ℕ) JsonFault
fraction n [] = Ok []
fraction n (b ∷ bs) = if b == 46 then some_digits n bs else Ok (b ∷ bs)

abbrev pub unsigned_exponent : List ℕ → List ℕ
unsigned_exponent [] = []
unsigned_exponent (b ∷ bs) = if (b == 43) || (b == 45) then bs else b ∷ bs

abbrev pub exponent : ℕ → List ℕ → Result (List ℕ) JsonFault
exponent n [] = Ok []
exponent n (b ∷ bs) = if (b == 101) || (b == 69) then some_digits n (unsigned_exponent bs) else Ok (b ∷ bs)

-- what follows a number
abbrev pub after_number : ℕ → List ℕ → Result (List ℕ) JsonFault
after_number n bs = do
  w ← whole_part n (unsigned bs)
  f ← fraction n w
  exponent n f

-- behind a part of a list or an object: its closing bracket, or a comma and one more
pub data Next : Type 0 where
  done : List ℕ → Next
  more : List ℕ → Next

abbrev pub next_front : ℕ → ℕ → List ℕ → Result Next JsonFault
next_front n close [] = Err (Syntax n)
next_front n close (b ∷ bs) =
    if b == close then Ok (done bs)
    else if b == 44 then Ok (more (after_white bs))
    else Err (Syntax (place n (b ∷ bs)))

abbrev pub next : ℕ → ℕ → List ℕ → Result Next JsonFault
next n close bs = next_front n close (after_white bs)

-- behind a member's name: the value, after the colon
abbrev pub colon_front : ℕ → List ℕ → Result (List ℕ) JsonFault
colon_front n [] = Err (Syntax n)
colon_front n (b ∷ bs) = if b == 58 then Ok (after_white bs) else Err (Syntax (place n (b ∷ bs)))

abbrev pub colon : ℕ → List ℕ → Result (List ℕ) JsonFault
colon n bs = colon_front n (after_white bs)
