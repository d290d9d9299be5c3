-- The definitions that a script puts.
use Rattle.std.specs.Prelude.{Result, Ok, Err}
use Rattle.api_model.specs.Definition.{Definition, stated}
use Rattle.api_model.specs.Document.{Parts}
use Rattle.api_parts.specs.Reading.{Read}
use Rattle.script_records.specs.declared.records.LineFault.{LineFault}
use Rattle.script_records.specs.declared.records.LineFault.TheVariants as fault

-- a definition, or why its line is refused
abbrev pub Taken : Type 0
Taken = Result Definition LineFault

abbrev pub taken_by : Definition → Read Parts → Taken
taken_by d (Ok parts) = Ok d
taken_by d (Err why) = Err (fault.Definition why)

-- it is taken where it is stated
abbrev pub taken : Definition → Taken
taken d = taken_by d (stated d)
