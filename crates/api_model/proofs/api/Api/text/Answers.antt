use Rattle.api_model.specs.Definition.{text}
use Rattle.api_model.proofs.Kept.{on_ok}
use Rattle.api_model.proofs.api.Api.text.Goals as goal

pub returns-clause-read : goal.returns-clause-read
returns-clause-read c = on_ok c.keep.result (text c.args.template.now) _ c.in_ok-read.ensures.read
