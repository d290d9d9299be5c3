-- Where the program says that a byte stands.
use Rattle.json_subset.specs.Compact as says
use Rattle.json_subset.specs.declared.compact.Place.{Place}
use Rattle.json_subset.specs.declared.compact.Place.TheVariants as code

abbrev pub place_of : Place → says.Place
place_of code.Outside = says.outside
place_of code.InString = says.in_string
place_of code.BehindBackslash = says.behind_backslash
