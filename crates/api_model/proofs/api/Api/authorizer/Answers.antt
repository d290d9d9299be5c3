use Rattle.api_model.proofs.Stated.{authorizer_found}
use Rattle.api_model.proofs.api.Api.authorizer.Goals as goal

pub returns-clause-named : goal.returns-clause-named
returns-clause-named c = authorizer_found c.args.self.now c.args.method c.requires c.find_authorizer.result c.find_authorizer.ensures
