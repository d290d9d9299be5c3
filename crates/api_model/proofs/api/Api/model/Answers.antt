use Rattle.api_model.proofs.Stated.{model_found}
use Rattle.api_model.proofs.api.Api.model.Goals as goal

pub returns-clause-named : goal.returns-clause-named
returns-clause-named c = model_found c.args.self.now c.args.method c.args.media.now c.requires
