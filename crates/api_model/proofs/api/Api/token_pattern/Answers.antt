use Rattle.std.proofs.Common.{◌∙◌}
use Rattle.api_model.proofs.Stated.{pattern_found}
use Rattle.api_model.proofs.api.Api.token_pattern.Goals as goal

pub returns-clause-pattern : goal.returns-clause-pattern
returns-clause-pattern c = c.find_pattern.ensures ∙ pattern_found c.args.self.now c.args.method
