-- What the scan for macros meets.
use Rattle.std.specs.Prelude.{◌≡◌}
use Rattle.vtl_grammar.specs.Macros as scan
use Rattle.vtl_words.specs.declared.macros.Scanned.{Scanned}
use Rattle.vtl_words.specs.declared.macros.Scanned.TheVariants as met

abbrev pub IsScanned : Scanned → scan.Scanned → Type 0
IsScanned met.Done s = s ≡ scan.done
IsScanned (met.Passed rest) s = s ≡ scan.passed rest.now
IsScanned (met.Found name rest) s = s ≡ scan.found name.now rest.now
