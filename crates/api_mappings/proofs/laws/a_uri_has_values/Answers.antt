use Rattle.api_mappings.proofs.Values.{some_values}
use Rattle.api_mappings.proofs.laws.a_uri_has_values.Goals as goal

pub returns : goal.returns
returns c = some_values
