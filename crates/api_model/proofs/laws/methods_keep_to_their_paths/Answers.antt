use Rattle.api_model.proofs.Stated.{keep_to_paths}
use Rattle.api_model.proofs.laws.methods_keep_to_their_paths.Goals as goal

pub returns : goal.returns
returns c = keep_to_paths
