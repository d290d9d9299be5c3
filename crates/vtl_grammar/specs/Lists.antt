-- Lists, ranges and maps (User Guide, "ArrayLists", "the range operator", "Map").
use Rattle.std.specs.Prelude.{ℕ, ◌+◌, Bool, true, false, List, [], ◌∷◌, length, Result, Ok, Err}
use Rattle.vtl_grammar.specs.declared.fault.Fault.{Fault}
use Rattle.vtl_grammar.specs.declared.fault.Fault.TheVariants.{BadExpression}
use Rattle.vtl_grammar.specs.Tree.{Expr, Exprs, Pairs, listed, range, mapped, no_exprs, expr, no_pairs, pair}
use Rattle.vtl_grammar.specs.Bytes.{white, taken}
use Rattle.vtl_grammar.specs.Faults.{◌>>=◌, Read, bad, expect, up_to}
use Rattle.vtl_grammar.specs.Operators.{alone, ranging}
use Rattle.vtl_grammar.specs.Levels.{Reader}
use Rattle.vtl_grammar.specs.Loops.{first, put_first, Turn, last, more, gather}
use Rattle.vtl_grammar.specs.References.{Mark, closing, comma, other, mark_of}

abbrev pub ElementTurn : Type 0
ElementTurn = Result (Turn Expr (Exprs × List ℕ) (List ℕ)) Fault

abbrev pub element_on : Reader → Mark → List ℕ → ElementTurn
element_on r closing bs = Ok (last (no_exprs, bs))
element_on r comma bs = r 6 alone bs >>= λ e. Ok (more e.0 (white e.1))
element_on r other bs = Err (BadExpression (length bs + 1))

-- what stands behind an element: the closing bracket, or a comma and another
abbrev pub element_turn : Reader → List ℕ → ElementTurn
element_turn r [] = bad []
element_turn r (b ∷ bs) = element_on r (mark_of 93 b) bs

-- an element and those behind it
abbrev pub elements : Reader → Expr → List ℕ → Read Exprs
elements r e bs = put_first expr e (gather (first expr) (element_turn r) (length bs + 1) bs)

-- behind the first dot of a range
abbrev pub range_from : Reader → Expr → List ℕ → Read Expr
range_from r e bs = do
  rest ← expect 46 bs
  f ← up_to 93 (r 6 alone rest)
  Ok (range e f.0, f.1)

-- behind the first element
abbrev pub list_on : Reader → Expr → Bool × List ℕ → Read Expr
list_on r e (true, rest) = range_from r e rest
list_on r e (false, rest) = elements r e rest >>= λ es. Ok (listed es.0, es.1)

-- behind a `[`
abbrev pub list_in : Reader → Bool × List ℕ → Read Expr
list_in r (true, rest) = Ok (listed no_exprs, rest)
list_in r (false, rest) = do
  e ← r 6 ranging rest
  list_on r e.0 (taken 46 (white e.1))

-- one pair of a map
abbrev pub pair_at : Reader → List ℕ → Read (Expr × Expr)
pair_at r bs = do
  k ← up_to 58 (r 6 alone bs)
  v ← r 6 alone k.1
  Ok ((k.0, v.0), white v.1)

abbrev pub PairTurn : Type 0
PairTurn = Result (Turn (Expr × Expr) (Pairs × List ℕ) (List ℕ)) Fault

abbrev pub pair_on : Reader → Mark → List ℕ → PairTurn
pair_on r closing bs = Ok (last (no_pairs, bs))
pair_on r comma bs = pair_at r bs >>= λ p. Ok (more p.0 p.1)
pair_on r other bs = Err (BadExpression (length bs + 1))

-- what stands behind a pair: the closing brace, or a comma and another
abbrev pub pair_turn : Reader → List ℕ → PairTurn
pair_turn r [] = bad []
pair_turn r (b ∷ bs) = pair_on r (mark_of 125 b) bs

abbrev pub with_pair : Expr × Expr → Pairs → Pairs
with_pair p ps = pair p.0 p.1 ps

-- a pair and those behind it
abbrev pub pairs : Reader → Expr × Expr → List ℕ → Read Pairs
pairs r p bs = put_first with_pair p (gather (first with_pair) (pair_turn r) (length bs + 1) bs)

-- behind a `{`
abbrev pub map_in : Reader → Bool × List ℕ → Read Expr
map_in r (true, rest) = Ok (mapped no_pairs, rest)
map_in r (false, rest) = pair_at r rest >>= λ p. pairs r p.0 p.1 >>= λ ps. Ok (mapped ps.0, ps.1)
