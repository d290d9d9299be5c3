use Rattle.api_model.proofs.Stated.{finds_named}
use Rattle.api_model.proofs.laws.what_is_named_is_found.Goals as goal

pub returns : goal.returns
returns c = finds_named
