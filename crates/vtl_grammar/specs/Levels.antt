-- Levels: each bracket of an expression, each `!` and each `not` opens one, and at most 64 may be open.
use Rattle.std.specs.Prelude.{ℕ, List, Option, Some, None, Result, Err}
use Rattle.vtl_grammar.specs.declared.fault.Fault.{Fault}
use Rattle.vtl_grammar.specs.declared.fault.Fault.TheVariants.{TooDeep}
use Rattle.vtl_grammar.specs.Tree.{Expr}
use Rattle.vtl_grammar.specs.Faults.{Read, within}
use Rattle.vtl_grammar.specs.Operators.{How}

-- reads an operand of this rank: 6 is a whole expression, 0 is one without binary operators
abbrev pub Reader : Type 0
Reader = ℕ → How → List ℕ → Read Expr

-- what a level further down reads, where one is left
abbrev pub deeper : {A : Type 0} → ℕ → Option Reader → (Reader → Result A Fault) → Result A Fault
deeper at None f = Err (TooDeep at)
deeper at (Some r) f = f r

-- the inside of a bracket at this place
abbrev pub opened : {A : Type 0} → ℕ → Option Reader → (Reader → Result A Fault) → Result A Fault
opened at inner f = within at (deeper at inner f)
