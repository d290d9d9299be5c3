use Rattle.api_model.proofs.Stated.{have_values}
use Rattle.api_model.proofs.laws.path_parameters_have_values.Goals as goal

pub returns : goal.returns
returns c = have_values
