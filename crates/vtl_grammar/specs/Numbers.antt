-- Whole numbers of 64 bits, and the words `true` and `false`.
use Rattle.std.specs.Prelude.{ℕ, ◌+◌, ◌-◌, ◌*◌, ℤ, pos, neg_ℤ, Bool, true, false, List, [], ◌∷◌, codes, length, Option, Some, None, Result, Ok, Err, nat_le, ◌==◌, bytes_eq, if◌then◌else◌}
use Rattle.vtl_grammar.specs.declared.fault.Fault.{Fault}
use Rattle.vtl_grammar.specs.declared.fault.Fault.TheVariants.{Unclosed, BadExpression}
use Rattle.vtl_grammar.specs.Tree.{Expr, whole, boolean}
use Rattle.vtl_grammar.specs.Bytes.{is_digit, parted}
use Rattle.vtl_grammar.specs.Faults.{◌>>=◌, Read, bad, bad_word}
use Rattle.vtl_grammar.specs.Operators.{How, alone, ranging, argument}

-- the number that the digits mean, behind those that mean n
abbrev pub decimal : ℕ → List ℕ → ℕ
decimal n [] = n
decimal n (d ∷ ds) = decimal (10 * n + (d - 48)) ds

-- the largest number, with a minus before it or not
abbrev pub most : Bool → ℕ
most true = 9223372036854775808
most false = 9223372036854775807

abbrev pub signed_whole : Bool → ℕ → ℤ
signed_whole true n = neg_ℤ (pos n)
signed_whole false n = pos n

abbrev pub range_dot : List ℕ → List ℕ → Result (List ℕ) Fault
range_dot all [] = Err (Unclosed 0)
range_dot all (c ∷ bs) = if is_digit c then Err (BadExpression (length bs + 2)) else if c == 46 then Ok all else Err (BadExpression (length bs + 1))

-- behind a number's digits a dot may stand only where it begins the `..` of a range
abbrev pub dotted : How → List ℕ → Result (List ℕ) Fault
dotted how [] = Ok []
dotted ranging (b ∷ bs) = if b == 46 then range_dot (b ∷ bs) bs else Ok (b ∷ bs)
dotted alone (b ∷ bs) = if b == 46 then Err (BadExpression (length bs + 1)) else Ok (b ∷ bs)
dotted argument (b ∷ bs) = if b == 46 then Err (BadExpression (length bs + 1)) else Ok (b ∷ bs)

-- a number that begins at this place, with its digits at the front
abbrev pub number : How → ℕ → Bool → List ℕ → Read Expr
number how at negative bs = elim (nat_le (decimal 0 (parted is_digit bs).0) (most negative)) [ false ↦ Err (BadExpression at) | true ↦ dotted how (parted is_digit bs).1 >>= λ rest. Ok (whole (signed_whole negative (decimal 0 (parted is_digit bs).0)), rest) ]

-- behind a `-`
abbrev pub minus_number : How → List ℕ → Read Expr
minus_number how [] = bad []
minus_number how (b ∷ bs) = elim (is_digit b) [ true ↦ number how (length bs + 2) true (b ∷ bs) | false ↦ bad (b ∷ bs) ]

-- `true` or `false`, as a whole identifier
abbrev pub boolean_word : List ℕ → Option (List ℕ × List ℕ) → Read Expr
boolean_word bs None = bad bs
boolean_word bs (Some (x, rest)) = elim (bytes_eq x (codes "true")) [ true ↦ Ok (boolean true, rest) | false ↦ elim (bytes_eq x (codes "false")) [ true ↦ Ok (boolean false, rest) | false ↦ bad_word (codes "true" ∷ codes "false" ∷ []) bs ] ]
