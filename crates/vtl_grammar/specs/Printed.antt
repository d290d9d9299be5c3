-- What is printed of a fault.
use Rattle.std.specs.Prelude.{ℕ, List, ◌++◌, codes}
use Rattle.std.specs.Fmt.{decimal}
use Rattle.vtl_grammar.specs.declared.fault.TemplateFault.{TemplateFault}
use Rattle.vtl_grammar.specs.declared.fault.TemplateFault.TheVariants.{TooLong, Unclosed, BadDirective, BadExpression, UnsupportedMethod, Escape, ParamAssigned, TooDeep, Memory}

-- the place in brackets, in decimal digits
abbrev pub place : ℕ → List ℕ
place at = codes "(" ++ decimal at ++ codes ")"

-- a fault's name, with its place
abbrev pub printed : TemplateFault → List ℕ
printed TooLong = codes "TooLong"
printed (Unclosed at) = codes "Unclosed" ++ place at
printed (BadDirective at) = codes "BadDirective" ++ place at
printed (BadExpression at) = codes "BadExpression" ++ place at
printed (UnsupportedMethod at) = codes "UnsupportedMethod" ++ place at
printed (Escape at) = codes "Escape" ++ place at
printed (ParamAssigned at) = codes "ParamAssigned" ++ place at
printed (TooDeep at) = codes "TooDeep" ++ place at
printed Memory = codes "Memory"
