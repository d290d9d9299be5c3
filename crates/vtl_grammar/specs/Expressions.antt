-- Expressions: operands, chains of operators of one rank, and levels.
use Rattle.std.specs.Prelude.{ℕ, zero, suc, ◌+◌, true, false, ◌||◌, List, [], ◌∷◌, codes, length, Option, Some, None, Ok, Err, ◌==◌, if◌then◌else◌}
use Rattle.vtl_grammar.specs.declared.fault.Fault.TheVariants.{BadExpression}
use Rattle.vtl_grammar.specs.Tree.{Operator, Expr, reference, binary, negated, named}
use Rattle.vtl_grammar.specs.Bytes.{is_digit, white, name_at, taken, whole_word}
use Rattle.vtl_grammar.specs.Faults.{◌>>=◌, Read, bad, bad_word, up_to}
use Rattle.vtl_grammar.specs.Operators.{How, alone, rank, operator}
use Rattle.vtl_grammar.specs.Numbers.{number, minus_number, boolean_word}
use Rattle.vtl_grammar.specs.Levels.{Reader, deeper, opened}
use Rattle.vtl_grammar.specs.References.{Begun, a_reference, nameless, begun, dots_in, steps_at}
use Rattle.vtl_grammar.specs.Strings.{single_quoted, double_quoted}
use Rattle.vtl_grammar.specs.Lists.{list_in, map_in}

-- what an operand begins with
pub data Lead : Type 0 where
  an_exclamation : Lead
  an_n : Lead
  a_dollar : Lead
  a_minus : Lead
  a_digit : Lead
  a_quote : Lead
  a_double_quote : Lead
  a_t_or_f : Lead
  a_round : Lead
  a_square : Lead
  a_brace : Lead
  no_lead : Lead

abbrev pub lead_of : ℕ → Lead
lead_of b =
    if b == 33 then an_exclamation
    else if b == 110 then an_n
    else if b == 36 then a_dollar
    else if b == 45 then a_minus
    else if is_digit b then a_digit
    else if b == 39 then a_quote
    else if b == 34 then a_double_quote
    else if (b == 116) || (b == 102) then a_t_or_f
    else if b == 40 then a_round
    else if b == 91 then a_square
    else if b == 123 then a_brace
    else no_lead

-- behind a `!` or a `not` at this place
abbrev pub negation : Option Reader → How → ℕ → List ℕ → Read Expr
negation inner how at bs = deeper at inner (λ r. r 0 how bs >>= λ e. Ok (negated e.0, e.1))

abbrev pub not_word : Option Reader → How → List ℕ → Option (List ℕ) → Read Expr
not_word inner how bs None = bad_word (codes "not" ∷ []) bs
not_word inner how bs (Some rest) = negation inner how (length bs) rest

-- behind a `$`
abbrev pub dollar : Option Reader → How → List ℕ → Begun → Read Expr
dollar inner how bs (nameless missing) = bad missing
dollar inner how bs (a_reference quiet braced x rest) = steps_at inner (dots_in how braced) braced (length bs + 1) rest >>= λ ss. Ok (reference (named x) ss.0, ss.1)

-- behind a `(`, a `[` and a `{`
abbrev pub round_in : Option Reader → List ℕ → Read Expr
round_in inner bs = opened (length bs + 1) inner (λ r. up_to 41 (r 6 alone bs))

abbrev pub square_in : Option Reader → List ℕ → Read Expr
square_in inner bs = opened (length bs + 1) inner (λ r. list_in r (taken 93 (white bs)))

abbrev pub brace_in : Option Reader → List ℕ → Read Expr
brace_in inner bs = opened (length bs + 1) inner (λ r. map_in r (taken 125 (white bs)))

abbrev pub led : List (List ℕ) → Option Reader → How → Lead → ℕ → List ℕ → Read Expr
led names inner how an_exclamation b bs = negation inner how (length bs + 1) bs
led names inner how an_n b bs = not_word inner how (b ∷ bs) (whole_word (codes "not") (b ∷ bs))
led names inner how a_dollar b bs = dollar inner how bs (begun bs)
led names inner how a_minus b bs = minus_number how bs
led names inner how a_digit b bs = number how (length bs + 1) false (b ∷ bs)
led names inner how a_quote b bs = single_quoted bs
led names inner how a_double_quote b bs = double_quoted names inner bs
led names inner how a_t_or_f b bs = boolean_word (b ∷ bs) (name_at (b ∷ bs))
led names inner how a_round b bs = round_in inner bs
led names inner how a_square b bs = square_in inner bs
led names inner how a_brace b bs = brace_in inner bs
led names inner how no_lead b bs = Err (BadExpression (length bs + 1))

abbrev pub operand_at : List (List ℕ) → Option Reader → How → List ℕ → Read Expr
operand_at names inner how [] = bad []
operand_at names inner how (b ∷ bs) = led names inner how (lead_of b) b bs

-- an expression without binary operators of its own
unfoldable pub operand : List (List ℕ) → Option Reader → How → List ℕ → Read Expr
operand names inner how bs = operand_at names inner how (white bs)

-- behind the operand x of a chain of this rank
abbrev pub linked : (List ℕ → Read Expr) → (Expr → List ℕ → Read Expr) → ℕ → Expr → List ℕ → Option (Operator × List ℕ) → Read Expr
linked one next k x bs None = Ok (x, bs)
linked one next k x bs (Some (o, more)) = elim (rank o == k) [ true ↦ one more >>= λ y. next (binary o x y.0) y.1 | false ↦ Ok (x, bs) ]

-- at most n more operators of this rank
unfoldable pub links : (List ℕ → Read Expr) → How → ℕ → ℕ → Expr → List ℕ → Read Expr
links one how k zero x bs = bad []
links one how k (suc n) x bs = operator how bs >>= λ o. linked one (links one how k n) k x bs o

-- operands of one rank after another, joined to the left
abbrev pub chain : (How → List ℕ → Read Expr) → ℕ → How → List ℕ → Read Expr
chain one k how bs = one how bs >>= λ x. links (one how) how k (length x.1 + 1) x.0 x.1

unfoldable pub ranked : (How → List ℕ → Read Expr) → ℕ → How → List ℕ → Read Expr
ranked one zero how bs = one how bs
ranked one (suc k) how bs = chain (ranked one k) (suc k) how bs

abbrev pub reader : List (List ℕ) → Option Reader → Reader
reader names inner k how bs = ranked (operand names inner) k how bs

-- what reads where so many levels may still open
unfoldable pub inside : List (List ℕ) → ℕ → Option Reader
inside names zero = None
inside names (suc d) = Some (reader names (inside names d))
