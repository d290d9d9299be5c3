use Rattle.api_model.proofs.Stated.{validator_found}
use Rattle.api_model.proofs.api.Api.validator.Goals as goal

pub returns-clause-named : goal.returns-clause-named
returns-clause-named c = validator_found c.args.self.now c.args.method c.requires
