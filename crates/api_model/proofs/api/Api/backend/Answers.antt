use Rattle.api_model.proofs.Stated.{backend_found}
use Rattle.api_model.proofs.api.Api.backend.Goals as goal

pub returns-clause-read : goal.returns-clause-read
returns-clause-read c = backend_found c.args.self.now c.args.method c.requires
