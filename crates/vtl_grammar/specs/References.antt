-- References and their steps (User Guide, "References").
use Rattle.std.specs.Prelude.{ℕ, zero, suc, ◌+◌, ◌-◌, Bool, true, false, ◌||◌, List, [], ◌∷◌, length, take, Option, Some, None, Result, Ok, Err, ◌==◌, if◌then◌else◌}
use Rattle.vtl_grammar.specs.declared.fault.Fault.{Fault}
use Rattle.vtl_grammar.specs.declared.fault.Fault.TheVariants.{BadExpression, UnsupportedMethod}
use Rattle.vtl_grammar.specs.Tree.{Expr, Step, Steps, Exprs, no_steps, step, member, call, index, no_exprs, expr}
use Rattle.vtl_grammar.specs.Bytes.{is_digit, white, name_at, taken}
use Rattle.vtl_grammar.specs.Faults.{◌>>=◌, Read, bad, within, expect, up_to}
use Rattle.vtl_grammar.specs.Loops.{first, put_first, Turn, last, more, gather}
use Rattle.vtl_grammar.specs.Methods.{arity}
use Rattle.vtl_grammar.specs.Operators.{How, alone, ranging, argument}
use Rattle.vtl_grammar.specs.Levels.{Reader, opened}

-- what follows a `$`
pub data Begun : Type 0 where
  -- whether `!` and `{` follow; the name, and what follows it
  a_reference : Bool → Bool → List ℕ → List ℕ → Begun
  -- no reference: the place where its name is missing
  nameless : List ℕ → Begun

abbrev pub named_or : Bool → Bool → List ℕ → Option (List ℕ × List ℕ) → Begun
named_or quiet braced bs None = nameless bs
named_or quiet braced bs (Some p) = a_reference quiet braced p.0 p.1

abbrev pub braced_or : Bool → Bool × List ℕ → Begun
braced_or quiet c = named_or quiet c.0 c.1 (name_at c.1)

abbrev pub quiet_or : Bool × List ℕ → Begun
quiet_or q = braced_or q.0 (taken 123 q.1)

abbrev pub begun : List ℕ → Begun
begun bs = quiet_or (taken 33 bs)

-- what a dot does that no identifier follows: it ends the reference, may not stand, or may begin a range
pub data Dots : Type 0 where
  free : Dots
  strict : Dots
  ranged : Dots

-- in an expression
abbrev pub dots_in : How → Bool → Dots
dots_in how true = strict
dots_in ranging false = ranged
dots_in alone false = strict
dots_in argument false = strict

-- in text and in a string
abbrev pub dots_out : Bool → Dots
dots_out true = strict
dots_out false = free

-- what stands where a step may: a name, a method with its bracket, an index's bracket, a dot without a name, or nothing
pub data StepFront : Type 0 where
  a_name : List ℕ → List ℕ → StepFront
  a_call : List ℕ → List ℕ → StepFront
  an_index : List ℕ → StepFront
  a_dot : List ℕ → StepFront
  no_step : StepFront

abbrev pub method_or : List ℕ → Bool × List ℕ → StepFront
method_or x (true, rest) = a_call x rest
method_or x (false, rest) = a_name x rest

abbrev pub dot_or : List ℕ → Option (List ℕ × List ℕ) → StepFront
dot_or bs None = a_dot bs
dot_or bs (Some p) = method_or p.0 (taken 40 p.1)

abbrev pub step_front : List ℕ → StepFront
step_front [] = no_step
step_front (b ∷ bs) = elim (b == 46) [ true ↦ dot_or bs (name_at bs) | false ↦ elim (b == 91) [ true ↦ an_index bs | false ↦ no_step ] ]

-- a byte with which an expression may begin
abbrev pub begins_operand : ℕ → Bool
begins_operand b = is_digit b || (b == 36) || (b == 45) || (b == 39) || (b == 34) || (b == 91) || (b == 123) || (b == 40) || (b == 33) || (b == 116) || (b == 102) || (b == 110)

-- behind the arguments that a method may have: another one is too many
abbrev pub too_many : ℕ → List ℕ → Read Exprs
too_many at [] = bad []
too_many at (b ∷ bs) = if begins_operand b then Err (UnsupportedMethod at) else Err (BadExpression (length bs + 1))

-- the byte that closes, a comma, or another
pub data Mark : Type 0 where
  closing : Mark
  comma : Mark
  other : Mark

abbrev pub mark_of : ℕ → ℕ → Mark
mark_of c b = if b == c then closing else if b == 44 then comma else other

-- before another argument, where so few are still needed and so many may still come
pub record Ahead : Type 0 where
  pub few : ℕ
  pub many : ℕ
  pub rest : List ℕ

abbrev pub next_argument : Reader → ℕ → ℕ → List ℕ → Result (Turn Expr (Exprs × List ℕ) Ahead) Fault
next_argument r few many bs = r 6 alone bs >>= λ e. Ok (more e.0 (record { few = few - 1; many = many; rest = white e.1 }))

abbrev pub argument_on : Reader → ℕ → ℕ → ℕ → Mark → List ℕ → Result (Turn Expr (Exprs × List ℕ) Ahead) Fault
argument_on r at zero many closing bs = Ok (last (no_exprs, bs))
argument_on r at (suc few) many closing bs = Err (UnsupportedMethod at)
argument_on r at few zero comma bs = Err (UnsupportedMethod at)
argument_on r at few (suc many) comma bs = next_argument r few many (white bs)
argument_on r at few many other bs = Err (BadExpression (length bs + 1))

abbrev pub argument_at : Reader → ℕ → ℕ → ℕ → List ℕ → Result (Turn Expr (Exprs × List ℕ) Ahead) Fault
argument_at r at few many [] = bad []
argument_at r at few many (b ∷ bs) = argument_on r at few many (mark_of 41 b) bs

-- what stands behind an argument: the closing bracket, or a comma and another
abbrev pub argument_turn : Reader → ℕ → Ahead → Result (Turn Expr (Exprs × List ℕ) Ahead) Fault
argument_turn r at s = argument_at r at s.few s.many s.rest

-- an argument and those behind it
abbrev pub arguments_after : Reader → ℕ → ℕ → ℕ → Expr → List ℕ → Read Exprs
arguments_after r at few many e bs = put_first expr e (gather (first expr) (argument_turn r at) (many + 1) (record { few = few; many = many; rest = bs }))

-- a method's arguments, of which so few are needed and so many may come
abbrev pub arguments_from : Reader → ℕ → ℕ → ℕ → List ℕ → Read Exprs
arguments_from r at few zero bs = too_many at bs
arguments_from r at few (suc many) bs = r 6 alone bs >>= λ e. arguments_after r at (few - 1) many e.0 (white e.1)

abbrev pub no_arguments : ℕ → ℕ → List ℕ → Read Exprs
no_arguments at zero bs = Ok (no_exprs, bs)
no_arguments at (suc few) bs = Err (UnsupportedMethod at)

abbrev pub arguments_in : Reader → ℕ → ℕ → ℕ → List ℕ → Read Exprs
arguments_in r at few many [] = bad []
arguments_in r at few many (b ∷ bs) = elim (b == 41) [ true ↦ no_arguments at few bs | false ↦ arguments_from r at few many (b ∷ bs) ]

-- behind a method's name, which stands at this place, and its `(`
abbrev pub arguments : Option Reader → ℕ → Option (ℕ × ℕ) → List ℕ → Read Exprs
arguments inner at None bs = Err (UnsupportedMethod at)
arguments inner at (Some p) bs = opened (length bs + 1) inner (λ r. arguments_in r at p.0 p.1 (white bs))

-- behind the `[` of an index
abbrev pub index_in : Option Reader → List ℕ → Read Expr
index_in inner bs = opened (length bs + 1) inner (λ r. up_to 93 (r 6 alone bs))

abbrev pub StepTurn : Type 0
StepTurn = Result (Turn Step (Steps × List ℕ) (List ℕ)) Fault

-- the end of the steps
abbrev pub steps_end : List ℕ → StepTurn
steps_end bs = Ok (last (no_steps, bs))

abbrev pub range_or : List ℕ → List ℕ → StepTurn
range_or all [] = bad []
range_or all (b ∷ bs) = if b == 46 then steps_end all else Err (BadExpression (length bs + 1))

abbrev pub at_dot : Dots → List ℕ → List ℕ → StepTurn
at_dot free all bs = steps_end all
at_dot strict all bs = bad bs
at_dot ranged all bs = range_or all bs

abbrev pub step_on : Option Reader → Dots → List ℕ → StepFront → StepTurn
step_on inner dots all (a_name x rest) = Ok (more (member x) rest)
step_on inner dots all (a_call x rest) = arguments inner (length x + length rest + 1) (arity x) rest >>= λ es. Ok (more (call x es.0) es.1)
step_on inner dots all (an_index rest) = index_in inner rest >>= λ e. Ok (more (index e.0) e.1)
step_on inner dots all (a_dot rest) = at_dot dots all rest
step_on inner dots all no_step = steps_end all

abbrev pub step_turn : Option Reader → Dots → List ℕ → StepTurn
step_turn inner dots bs = step_on inner dots bs (step_front bs)

-- the steps at the front
abbrev pub steps_from : Option Reader → Dots → List ℕ → Read Steps
steps_from inner dots bs = gather (first step) (step_turn inner dots) (length bs + 1) bs

abbrev pub brace_closed : Bool → Read Steps → Read Steps
brace_closed false r = r
brace_closed true r = r >>= λ ss. (expect 125 ss.1 >>= λ rest. Ok (ss.0, rest))

-- a reference in braces, whose `$` stands at this place, has to be closed
abbrev pub within_brace : {A : Type 0} → Bool → ℕ → Result A Fault → Result A Fault
within_brace true at r = within at r
within_brace false at r = r

-- the steps behind a reference's name, with its closing brace
abbrev pub steps_at : Option Reader → Dots → Bool → ℕ → List ℕ → Read Steps
steps_at inner dots braced at bs = within_brace braced at (brace_closed braced (steps_from inner dots bs))

-- the source of a reference that begins all, with rest behind it: none where it is quiet
abbrev pub source : Bool → List ℕ → List ℕ → List ℕ
source true all rest = []
source false all rest = take (length all - length rest) all
