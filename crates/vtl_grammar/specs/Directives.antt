-- The heads of directives, from behind their words to the closing bracket. Up to where an expression is expected, what
-- does not go on is told at the directive's `#`; from there on, where it stands.
use Rattle.std.specs.Prelude.{ℕ, ◌+◌, Bool, true, false, ◌||◌, List, [], ◌∷◌, codes, length, Option, Some, None, Result, Ok, Err, ◌==◌, bytes_eq, if◌then◌else◌}
use Rattle.vtl_grammar.specs.declared.fault.Fault.{Fault}
use Rattle.vtl_grammar.specs.declared.fault.Fault.TheVariants.{Unclosed, BadDirective, ParamAssigned}
use Rattle.vtl_grammar.specs.Tree.{Expr, Exprs, no_exprs, expr, Target, variable, context}
use Rattle.vtl_grammar.specs.Bytes.{is_white, white, blanks, name_at, taken, is_one_of}
use Rattle.vtl_grammar.specs.Faults.{◌>>=◌, Read, bad, within, up_to}
use Rattle.vtl_grammar.specs.Operators.{alone, argument}
use Rattle.vtl_grammar.specs.Loops.{first, put_first, Turn, last, more, gather}
use Rattle.vtl_grammar.specs.Levels.{Reader, opened}

-- where a directive's form does not go on
abbrev pub bad_form : {A : Type 0} → ℕ → List ℕ → Result A Fault
bad_form at [] = Err (Unclosed 0)
bad_form at (b ∷ bs) = Err (BadDirective at)

-- this byte, as a directive's form wants it
abbrev pub form : ℕ → ℕ → List ℕ → Result (List ℕ) Fault
form at c [] = Err (Unclosed 0)
form at c (b ∷ bs) = if b == c then Ok bs else Err (BadDirective at)

abbrev pub form_name_or : ℕ → List ℕ → Option (List ℕ × List ℕ) → Read (List ℕ)
form_name_or at bs None = bad_form at bs
form_name_or at bs (Some p) = Ok p

abbrev pub form_name : ℕ → List ℕ → Read (List ℕ)
form_name at bs = form_name_or at bs (name_at bs)

-- the bracket behind a directive's word, without which the directive has no form
abbrev pub bracket_or : ℕ → Bool × List ℕ → Result (List ℕ) Fault
bracket_or at (true, rest) = Ok rest
bracket_or at (false, rest) = Err (BadDirective at)

abbrev pub bracket : ℕ → List ℕ → Result (List ℕ) Fault
bracket at bs = bracket_or at (taken 40 (blanks bs))

-- an `#if` or `#elseif`: its condition
abbrev pub condition : Reader → ℕ → List ℕ → Read Expr
condition r at bs = do
  rest ← bracket at bs
  within (length rest + 1) (up_to 41 (r 6 alone rest))

-- the left side of a `#set`

-- the names below which the outside gives values
abbrev pub is_root : List ℕ → Bool
is_root x = bytes_eq x (codes "context") || bytes_eq x (codes "input") || bytes_eq x (codes "util") || bytes_eq x (codes "stageVariables")

-- a step or an argument would follow
abbrev pub goes_on : List ℕ → Bool
goes_on [] = false
goes_on (b ∷ bs) = (b == 46) || (b == 91) || (b == 40)

abbrev pub NameTurn : Type 0
NameTurn = Result (Turn (List ℕ) (List (List ℕ) × List ℕ) (List ℕ)) Fault

abbrev pub with_name : List ℕ → List (List ℕ) → List (List ℕ)
with_name x xs = x ∷ xs

abbrev pub path_on : ℕ → Bool × List ℕ → NameTurn
path_on at (false, rest) = Ok (last ([], rest))
path_on at (true, rest) = form_name at rest >>= λ x. Ok (more x.0 x.1)

abbrev pub path_turn : ℕ → List ℕ → NameTurn
path_turn at bs = path_on at (taken 46 bs)

-- the names of a path below `$context`
abbrev pub path : ℕ → List ℕ → Read (List (List ℕ))
path at bs = gather (first with_name) (path_turn at) (length bs + 1) bs

abbrev pub context_of : ℕ → List (List ℕ) × List ℕ → Read Target
context_of at ([], rest) = Err (BadDirective at)
context_of at (x ∷ xs, rest) = Ok (context (x ∷ xs), rest)

abbrev pub context_path_at : ℕ → List ℕ → Read Target
context_path_at at bs = path at bs >>= context_of at

-- whose name it is: a parameter's, that of `$context`, one that no `#set` may have, or another
pub data Left : Type 0 where
  parameter : Left
  context_path : Left
  refused : Left
  free_name : Left

abbrev pub left_of : List (List ℕ) → List ℕ → Left
left_of params x =
    if is_one_of params x then parameter
    else if bytes_eq x (codes "context") then context_path
    else if is_root x || bytes_eq x (codes "foreach") then refused
    else free_name

abbrev pub target_of : ℕ → Left → List ℕ → List ℕ → Read Target
target_of at parameter x rest = elim (goes_on rest) [ true ↦ Err (BadDirective at) | false ↦ Err (ParamAssigned (length x + length rest)) ]
target_of at context_path x rest = context_path_at at rest
target_of at refused x rest = Err (BadDirective at)
target_of at free_name x rest = Ok (variable x, rest)

-- something has to stand behind a name
abbrev pub more_behind : {A : Type 0} → List ℕ → Result A Fault → Result A Fault
more_behind [] r = Err (Unclosed 0)
more_behind (b ∷ bs) r = r

abbrev pub target_closed : ℕ → Bool → Read Target → Read Target
target_closed at false r = r
target_closed at true r = r >>= λ t. (form at 125 t.1 >>= λ rest. Ok (t.0, rest))

-- behind the `$` of a left side
abbrev pub target : ℕ → List (List ℕ) → Bool × List ℕ → Read Target
target at params c = form_name at c.1 >>= λ p. more_behind p.1 (target_closed at c.0 (target_of at (left_of params p.0) p.0 p.1))

-- behind the bracket of a `#set`
abbrev pub set_in : Reader → ℕ → List (List ℕ) → List ℕ → Read (Target × Expr)
set_in r at params bs = do
  a ← form at 36 (white bs)
  t ← target at params (taken 123 a)
  b ← form at 61 (white t.1)
  e ← up_to 41 (r 6 alone b)
  Ok ((t.0, e.0), e.1)

abbrev pub set_at : Reader → ℕ → List (List ℕ) → List ℕ → Read (Target × Expr)
set_at r at params bs = do
  rest ← bracket at bs
  within (length rest + 1) (set_in r at params rest)

-- the word `in` of a `#foreach`: at the end of the text, an `i` may still become one
abbrev pub begins_in : List ℕ → Bool
begins_in [] = true
begins_in (b ∷ []) = b == 105
begins_in (b ∷ c ∷ bs) = false

abbrev pub in_or : ℕ → List ℕ → Option (List ℕ × List ℕ) → Result (List ℕ) Fault
in_or at bs None = bad_form at bs
in_or at bs (Some p) = elim (bytes_eq p.0 (codes "in")) [ true ↦ Ok p.1 | false ↦ elim (begins_in bs) [ true ↦ Err (Unclosed 0) | false ↦ Err (BadDirective at) ] ]

-- behind a loop variable: white space, and `in`
abbrev pub loop_variable : ℕ → List (List ℕ) → List ℕ → List ℕ → Result (List ℕ) Fault
loop_variable at params x [] = Err (Unclosed 0)
loop_variable at params x (b ∷ bs) = elim (is_white b) [ false ↦ Err (BadDirective at) | true ↦ elim (is_one_of params x) [ true ↦ Err (ParamAssigned (length x + length bs + 1)) | false ↦ in_or at (white bs) (name_at (white bs)) ] ]

-- behind the bracket of a `#foreach`
abbrev pub foreach_in : Reader → ℕ → List (List ℕ) → List ℕ → Read (List ℕ × Expr)
foreach_in r at params bs = do
  a ← form at 36 (white bs)
  x ← form_name at a
  b ← loop_variable at params x.0 x.1
  e ← up_to 41 (r 6 alone b)
  Ok ((x.0, e.0), e.1)

abbrev pub foreach_at : Reader → ℕ → List (List ℕ) → List ℕ → Read (List ℕ × Expr)
foreach_at r at params bs = do
  rest ← bracket at bs
  within (length rest + 1) (foreach_in r at params rest)

abbrev pub is_apart : List ℕ → Bool
is_apart [] = false
is_apart (b ∷ bs) = is_white b

-- a macro's parameters, each behind white space
abbrev pub param_on : ℕ → Bool → Bool × List ℕ → NameTurn
param_on at apart (true, rest) = Ok (last ([], rest))
param_on at false (false, rest) = bad_form at rest
param_on at true (false, rest) = form at 36 rest >>= λ a. form_name at a >>= λ x. Ok (more x.0 x.1)

abbrev pub param_turn : ℕ → List ℕ → NameTurn
param_turn at bs = param_on at (is_apart bs) (taken 41 (white bs))

abbrev pub params : ℕ → List ℕ → Read (List (List ℕ))
params at bs = gather (first with_name) (param_turn at) (length bs + 1) bs

abbrev pub macro_named : ℕ → List (List ℕ) → List ℕ → List ℕ → Read (List ℕ × List (List ℕ))
macro_named at defined x rest = elim (is_one_of defined x) [ true ↦ Err (BadDirective at) | false ↦ params at rest >>= λ ps. Ok ((x, ps.0), ps.1) ]

-- behind the bracket of a `#macro`, where these are defined already
abbrev pub macro_in : ℕ → List (List ℕ) → List ℕ → Read (List ℕ × List (List ℕ))
macro_in at defined bs = form_name at (white bs) >>= λ p. more_behind p.1 (macro_named at defined p.0 p.1)

abbrev pub macro_at : ℕ → List (List ℕ) → List ℕ → Read (List ℕ × List (List ℕ))
macro_at at defined bs = do
  rest ← bracket at bs
  within (length rest + 1) (macro_in at defined rest)

-- a call's arguments, parted by commas or white space

pub data Between : Type 0 where
  a_close : List ℕ → Between
  a_comma : List ℕ → Between
  a_space : Between
  nothing : Between

abbrev pub between_of : Bool → List ℕ → Between
between_of apart [] = nothing
between_of apart (b ∷ bs) = if b == 41 then a_close bs else if b == 44 then a_comma bs else if apart then a_space else nothing

abbrev pub another : Reader → List ℕ → Result (Turn Expr (Exprs × List ℕ) (List ℕ)) Fault
another r bs = r 6 argument bs >>= λ e. Ok (more e.0 e.1)

-- behind a comma another argument has to stand
abbrev pub after_comma : Reader → List ℕ → Result (Turn Expr (Exprs × List ℕ) (List ℕ)) Fault
after_comma r bs = elim ((taken 41 bs).0) [ true ↦ bad bs | false ↦ another r bs ]

abbrev pub between_on : Reader → Between → List ℕ → Result (Turn Expr (Exprs × List ℕ) (List ℕ)) Fault
between_on r (a_close rest) bs = Ok (last (no_exprs, rest))
between_on r (a_comma rest) bs = after_comma r (white rest)
between_on r a_space bs = another r bs
between_on r nothing bs = bad bs

abbrev pub call_turn : Reader → List ℕ → Result (Turn Expr (Exprs × List ℕ) (List ℕ)) Fault
call_turn r bs = between_on r (between_of (is_apart bs) (white bs)) (white bs)

abbrev pub call_arguments : Reader → List ℕ → Read Exprs
call_arguments r bs = r 6 argument bs >>= λ e. put_first expr e.0 (gather (first expr) (call_turn r) (length e.1 + 1) e.1)

abbrev pub call_in : Reader → Bool × List ℕ → Read Exprs
call_in r (true, rest) = Ok (no_exprs, rest)
call_in r (false, rest) = call_arguments r rest

abbrev pub call_at : Option Reader → ℕ → List ℕ → Read Exprs
call_at inner at bs = do
  rest ← bracket at bs
  opened (length rest + 1) inner (λ r. call_in r (taken 41 (white rest)))
