use Rattle.api_model.proofs.Ranges.{entry_below}
use Rattle.api_model.proofs.api.Api.entry.Goals as goal

pub returns-clause-range : goal.returns-clause-range
returns-clause-range c = entry_below c.args.self.now c.args.resource c.args.verb.now c.number_under.result c.number_under.ensures
