-- What is printed of a fault.
use Rattle.std.specs.Prelude.{ℕ, List, ◌++◌, codes}
use Rattle.std.specs.Fmt.{decimal}
use Rattle.jsonpath_core.specs.declared.fault.PathFault.{PathFault}
use Rattle.jsonpath_core.specs.declared.fault.PathFault.TheVariants.{BadPath, Memory}

-- its name, with its place in decimal digits
abbrev pub printed : PathFault → List ℕ
printed (BadPath at) = codes "BadPath(" ++ decimal at ++ codes ")"
printed Memory = codes "Memory"
