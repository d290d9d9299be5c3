-- The program's occasions.
use Rattle.gateway_vars.specs.Facts.{Occasion, call, failure}
use Rattle.gateway_vars.specs.declared.occasion.Occasion.{Occasion as CodeOccasion}
use Rattle.gateway_vars.specs.declared.occasion.Occasion.TheVariants as occasions

abbrev pub occasion_of : CodeOccasion → Occasion
occasion_of (occasions.Call request target) = call request.now target.now
occasion_of (occasions.Failure kind message) = failure kind message.now
