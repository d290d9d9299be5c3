-- What holds of what was read.
use Rattle.schema_draft4.specs.Compiled.{Compiled, compiled_schemas}
use Rattle.schema_rules.specs.Order.{IsOrdered}

abbrev pub OrderedByRead : Compiled → Type 0
OrderedByRead c = IsOrdered (compiled_schemas c)
