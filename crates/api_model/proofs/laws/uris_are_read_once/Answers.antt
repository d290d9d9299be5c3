use Rattle.api_model.proofs.Stated.{read_uris}
use Rattle.api_model.proofs.laws.uris_are_read_once.Goals as goal

pub returns : goal.returns
returns c = read_uris
