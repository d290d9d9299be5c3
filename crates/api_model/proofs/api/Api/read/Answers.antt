use Rattle.api_model.specs.Definition.{document}
use Rattle.api_model.proofs.Kept.{on_ok}
use Rattle.api_model.proofs.api.Api.read.Goals as goal

pub returns-clause-read : goal.returns-clause-read
returns-clause-read c = on_ok c.keep.result (document c.args.bytes.now) _ c.in_ok-parts.ensures.read
