-- What the program's steps stand for.
use Rattle.std.specs.Prelude.{◌≡◌, ℕ, Bool, Result, Ok, Err}
use Rattle.policy_core.specs.declared.fault.PolicyFault.{PolicyFault}
use Rattle.policy_core.specs.declared.fault.PolicyFault.TheVariants.{Malformed, Memory}
use Rattle.policy_core.specs.declared.pattern.Case.{Case}
use Rattle.policy_core.specs.declared.pattern.Case.TheVariants.{Exact, Ignored}
use Rattle.policy_core.specs.Decisions.{exactly, ignoring_case}

-- how characters are compared
abbrev pub same_of : Case → ℕ → ℕ → Bool
same_of Exact = exactly
same_of Ignored = ignoring_case

-- Reading met this fault, or memory ran out.
abbrev pub Fails : {Y : Type 0} → PolicyFault → Result Y PolicyFault → Type 0
Fails Memory read = Unit {0}
Fails (Malformed at) read = read ≡ Err (Malformed at)

-- What a function returned is what reading gives, unless memory ran out.
abbrev pub Gives : {Y : Type 0} → Result Y PolicyFault → Result Y PolicyFault → Type 0
Gives (Ok x) read = read ≡ Ok x
Gives (Err e) read = Fails e read
