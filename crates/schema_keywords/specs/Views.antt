-- Which keywords the program's are.
use Rattle.std.specs.Prelude.{◌<◌, length, map}
use Rattle.std.specs.String.{string_bytes}
use Rattle.json_subset.specs.Nodes.{AllBelow}
use Rattle.json_values.specs.Values.{AreSound, plain_of}
use Rattle.schema_keywords.specs.Keywords.{Test, type, required, minimum, maximum, multiple_of, min_length, max_length, pattern, enum, min_items, max_items, unique_items, min_properties, max_properties}
use Rattle.schema_keywords.specs.declared.keyword.Test.{Test as CodeTest}
use Rattle.schema_keywords.specs.declared.keyword.Test.TheVariants as code

abbrev pub test_of : CodeTest → Test
test_of (code.Type ts) = type ts.items
test_of (code.Required xs) = required (map string_bytes xs.items)
test_of (code.Minimum b sharp) = minimum b sharp
test_of (code.Maximum b sharp) = maximum b sharp
test_of (code.MultipleOf n) = multiple_of n
test_of (code.MinLength n) = min_length n
test_of (code.MaxLength n) = max_length n
test_of (code.Pattern p) = pattern p
test_of (code.Enum vs ids) = enum (map (plain_of vs.items) ids.items)
test_of (code.MinItems n) = min_items n
test_of (code.MaxItems n) = max_items n
test_of code.UniqueItems = unique_items
test_of (code.MinProperties n) = min_properties n
test_of (code.MaxProperties n) = max_properties n

-- a divisor is above 0, and the listed values are numbered
abbrev pub IsSoundTest : CodeTest → Type 0
IsSoundTest (code.Type ts) = Unit {0}
IsSoundTest (code.Required xs) = Unit {0}
IsSoundTest (code.Minimum b sharp) = Unit {0}
IsSoundTest (code.Maximum b sharp) = Unit {0}
IsSoundTest (code.MultipleOf n) = 0 < n
IsSoundTest (code.MinLength n) = Unit {0}
IsSoundTest (code.MaxLength n) = Unit {0}
IsSoundTest (code.Pattern p) = Unit {0}
IsSoundTest (code.Enum vs ids) = AreSound vs.items × AllBelow (length vs.items) ids.items
IsSoundTest (code.MinItems n) = Unit {0}
IsSoundTest (code.MaxItems n) = Unit {0}
IsSoundTest code.UniqueItems = Unit {0}
IsSoundTest (code.MinProperties n) = Unit {0}
IsSoundTest (code.MaxProperties n) = Unit {0}
