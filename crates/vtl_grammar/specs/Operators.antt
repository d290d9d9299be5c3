-- The binary operators, and what stands between two operands (User Guide, "Math", "If / ElseIf / Else").
use Rattle.std.specs.Prelude.{ℕ, Bool, true, false, ◌&&◌, List, [], ◌∷◌, codes, Option, Some, None, Result, Ok, ◌==◌, bytes_eq, if◌then◌else◌}
use Rattle.vtl_grammar.specs.declared.fault.Fault.{Fault}
use Rattle.vtl_grammar.specs.Tree.{Operator, or_, and_, equal, unequal, less, greater, at_most, at_least, plus, minus, times, divided, remainder}
use Rattle.vtl_grammar.specs.Bytes.{is_letter, is_white, white, name_at, taken, is_one_of}
use Rattle.vtl_grammar.specs.Faults.{◌>>=◌, bad, bad_word, expect}

-- what may stand behind an expression in its place: behind the first element of a list `..` may follow, and white space may end an argument of a macro
pub data How : Type 0 where
  alone : How
  ranging : How
  argument : How

-- how weakly an operator binds
abbrev pub rank : Operator → ℕ
rank or_ = 6
rank and_ = 5
rank equal = 4
rank unequal = 4
rank less = 3
rank greater = 3
rank at_most = 3
rank at_least = 3
rank plus = 2
rank minus = 2
rank times = 1
rank divided = 1
rank remainder = 1

-- a binary operator, where one stands, and what follows it
abbrev pub Found : Type 0
Found = Result (Option (Operator × List ℕ)) Fault

-- what the first byte of an operator says
pub data Sign : Type 0 where
  bar : Sign
  ampersand : Sign
  equals : Sign
  exclamation : Sign
  left_angle : Sign
  right_angle : Sign
  single : Operator → Sign
  letter : Sign
  no_sign : Sign

abbrev pub sign_of : ℕ → Sign
sign_of b =
    if b == 124 then bar
    else if b == 38 then ampersand
    else if b == 61 then equals
    else if b == 33 then exclamation
    else if b == 60 then left_angle
    else if b == 62 then right_angle
    else if b == 43 then single plus
    else if b == 45 then single minus
    else if b == 42 then single times
    else if b == 47 then single divided
    else if b == 37 then single remainder
    else if is_letter b then letter
    else no_sign

abbrev pub word_operator : List ℕ → Option Operator
word_operator x =
    if bytes_eq x (codes "or") then Some or_
    else if bytes_eq x (codes "and") then Some and_
    else if bytes_eq x (codes "eq") then Some equal
    else if bytes_eq x (codes "ne") then Some unequal
    else if bytes_eq x (codes "lt") then Some less
    else if bytes_eq x (codes "gt") then Some greater
    else if bytes_eq x (codes "le") then Some at_most
    else if bytes_eq x (codes "ge") then Some at_least
    else None

-- the words that begin an operand
abbrev pub operand_words : List (List ℕ)
operand_words = codes "true" ∷ codes "false" ∷ codes "not" ∷ []

-- the words that may stand behind an operand: those of operators, and those of the next argument
abbrev pub words_behind : Bool → List (List ℕ)
words_behind true = codes "or" ∷ codes "and" ∷ codes "eq" ∷ codes "ne" ∷ codes "lt" ∷ codes "gt" ∷ codes "le" ∷ codes "ge" ∷ codes "true" ∷ codes "false" ∷ codes "not" ∷ []
words_behind false = codes "or" ∷ codes "and" ∷ codes "eq" ∷ codes "ne" ∷ codes "lt" ∷ codes "gt" ∷ codes "le" ∷ codes "ge" ∷ []

abbrev pub doubled : Operator → ℕ → List ℕ → Found
doubled o c bs = expect c bs >>= λ rest. Ok (Some (o, rest))

-- `<=` beside `<`
abbrev pub or_equal : Operator → Operator → Bool × List ℕ → Found
or_equal o p (true, rest) = Ok (Some (p, rest))
or_equal o p (false, rest) = Ok (Some (o, rest))

-- `!=`, or the `!` of the next argument
abbrev pub unequal_or : Bool → Bool × List ℕ → Found
unequal_or next (true, rest) = Ok (Some (unequal, rest))
unequal_or true (false, rest) = Ok None
unequal_or false (false, rest) = bad rest

-- a word's operator, or the first word of the next argument
abbrev pub spelled : Bool → List ℕ → Option (List ℕ × List ℕ) → Found
spelled next bs None = Ok None
spelled next bs (Some (x, rest)) = elim (word_operator x) [ Some o ↦ Ok (Some (o, rest)) | None ↦ elim (next && is_one_of operand_words x) [ true ↦ Ok None | false ↦ bad_word (words_behind next) bs ] ]

abbrev pub signed : Bool → Sign → ℕ → List ℕ → Found
signed next bar b bs = doubled or_ 124 bs
signed next ampersand b bs = doubled and_ 38 bs
signed next equals b bs = doubled equal 61 bs
signed next exclamation b bs = unequal_or next (taken 61 bs)
signed next left_angle b bs = or_equal less at_most (taken 61 bs)
signed next right_angle b bs = or_equal greater at_least (taken 61 bs)
signed next (single o) b bs = Ok (Some (o, bs))
signed next letter b bs = spelled next (b ∷ bs) (name_at (b ∷ bs))
signed next no_sign b bs = Ok None

abbrev pub operator_at : Bool → List ℕ → Found
operator_at next [] = Ok None
operator_at next (b ∷ bs) = signed next (sign_of b) b bs

-- whether white space stands here that may end an argument
abbrev pub ends_argument : How → List ℕ → Bool
ends_argument argument (b ∷ bs) = is_white b
ends_argument argument [] = false
ends_argument alone bs = false
ends_argument ranging bs = false

-- the operator behind an operand
abbrev pub operator : How → List ℕ → Found
operator how bs = operator_at (ends_argument how bs) (white bs)
