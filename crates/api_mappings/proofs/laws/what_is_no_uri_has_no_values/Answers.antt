use Rattle.api_mappings.proofs.Values.{no_values}
use Rattle.api_mappings.proofs.laws.what_is_no_uri_has_no_values.Goals as goal

pub returns : goal.returns
returns c = no_values
