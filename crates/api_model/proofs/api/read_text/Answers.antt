use Rattle.api_model.proofs.Kept.{template_same}
use Rattle.api_model.proofs.api.read_text.Goals as goal

pub returns-clause-template : goal.returns-clause-template
returns-clause-template c = template_same c.args.template.now _ c.in-Ok.ensures
