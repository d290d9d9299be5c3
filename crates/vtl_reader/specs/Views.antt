-- What the reader's values say.
use Rattle.std.specs.Prelude.{◌≡◌, ℕ, ◌-◌, List, Option, Some, None, Result, Ok, Err}
use Rattle.vtl_grammar.specs.declared.fault.Fault.{Fault}
use Rattle.vtl_grammar.specs.declared.fault.Fault.TheVariants.{Unclosed}
use Rattle.vtl_grammar.specs.Loops.{folded, Turn, last, more}
use Rattle.vtl_grammar.specs.Strings.{moved}
use Rattle.vtl_grammar.specs.Tree.{Expr, Exprs, no_exprs}
use Rattle.vtl_grammar.specs.References.{Ahead}
use Rattle.vtl_reader.specs.declared.error.ReadError.{ReadError}
use Rattle.vtl_reader.specs.declared.error.ReadError.TheVariants as errors

abbrev pub Fails : {Y : Type 0} → ReadError → Result Y Fault → Type 0
Fails errors.Memory read = Unit {0}
Fails (errors.Met f) read = read ≡ Err f

-- What a function returned, seen by view, is what reading gives, unless memory ran out.
abbrev pub Gives : {X Y : Type 0} → (X → Y) → Result X ReadError → Result Y Fault → Type 0
Gives view (Ok x) read = read ≡ Ok (view x)
Gives view (Err e) read = Fails e read

-- the same error, but that what is unclosed began here
abbrev pub closed : ℕ → ReadError → ReadError
closed at (errors.Met (Unclosed n)) = errors.Met (Unclosed at)
closed at e = e

-- the same error, behind which n bytes more stand
abbrev pub IsMoved : ℕ → ReadError → ReadError → Type 0
IsMoved n errors.Memory e = e ≡ errors.Memory
IsMoved n (errors.Met f) errors.Memory = Unit {0}
IsMoved n (errors.Met f) (errors.Met g) = g ≡ moved n f

-- what a turn of a list is, whose end gives this
abbrev pub turn_of : {A C : Type 0} → C → Option A → List ℕ → Turn A (C × List ℕ) (List ℕ)
turn_of end None rest = last (end, rest)
turn_of end (Some x) rest = more x rest

-- what was gathered, and what further turns give
abbrev pub joined : {A C R : Type 0} → (A → C → C) → List A → Result (C × R) Fault → Result (C × R) Fault
joined c xs (Ok b) = Ok (folded c b.0 xs, b.1)
joined c xs (Err f) = Err f

-- the same for the arguments of a method, before which so few were needed and so many might come
abbrev pub ahead_of : ℕ → ℕ → Option Expr → List ℕ → Turn Expr (Exprs × List ℕ) Ahead
ahead_of few many None rest = last (no_exprs, rest)
ahead_of few many (Some e) rest = more e (record { few = few - 1; many = many - 1; rest = rest })
