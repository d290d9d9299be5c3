-- What the program's steps and answers stand for.
use Rattle.std.specs.Prelude.{◌≡◌, ◌≤◌, ◌^◌, List, All, map, Result, Ok, Err}
use Rattle.jsonpath_core.specs.declared.fault.PathFault.{PathFault}
use Rattle.jsonpath_core.specs.declared.fault.PathFault.TheVariants.{BadPath, Memory}
use Rattle.jsonpath_core.specs.declared.step.Step.{Step as CodeStep}
use Rattle.jsonpath_core.specs.declared.step.Step.TheVariants as code
use Rattle.jsonpath_core.specs.Steps.{Step, name, index, star}
use Rattle.jsonpath_core.specs.Spelling.{number_of}

abbrev pub step_view : CodeStep → Step
step_view (code.Name n) = name n
step_view (code.Index i) = index i
step_view (code.Past digits) = index (number_of digits)
step_view code.Star = star

abbrev pub steps_view : List CodeStep → List Step
steps_view steps = map step_view steps

-- what is kept by its digits is past all lists
abbrev pub IsKept : CodeStep → Type 0
IsKept (code.Name n) = Unit {0}
IsKept (code.Index i) = Unit {0}
IsKept (code.Past digits) = 2 ^ 32 ≤ number_of digits
IsKept code.Star = Unit {0}

abbrev pub AreKept : List CodeStep → Type 0
AreKept steps = All IsKept steps

-- Reading met this fault, or memory ran out.
abbrev pub Fails : {Y : Type 0} → PathFault → Result Y PathFault → Type 0
Fails Memory read = Unit {0}
Fails (BadPath at) read = read ≡ Err (BadPath at)

-- What a function returned, seen by view, is what reading gives, unless memory ran out.
abbrev pub Gives : {X Y : Type 0} → (X → Y) → Result X PathFault → Result Y PathFault → Type 0
Gives view (Ok x) read = read ≡ Ok (view x)
Gives view (Err e) read = Fails e read
