-- What is printed of a fault.
use Rattle.std.specs.Prelude.{ℕ, List, ◌++◌, codes}
use Rattle.std.specs.Fmt.{decimal}
use Rattle.policy_core.specs.declared.fault.PolicyFault.{PolicyFault}
use Rattle.policy_core.specs.declared.fault.PolicyFault.TheVariants.{Malformed, Memory}

-- its name, with its place in decimal digits
abbrev pub printed : PolicyFault → List ℕ
printed (Malformed at) = codes "Malformed(" ++ decimal at ++ codes ")"
printed Memory = codes "Memory"
