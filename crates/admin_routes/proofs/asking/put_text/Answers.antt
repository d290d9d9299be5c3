use Rattle.api_model.specs.Definition.{text}
use Rattle.admin_routes.proofs.Refusing.{refused_is}
use Rattle.admin_routes.proofs.asking.put_text.Goals as goal

pub returns-in-Err : goal.returns-in-Err
returns-in-Err c = refused_is c.refuse.result c.args.api (text c.args.template.now) c.in-Err.fault c.in-Err.ensures.refused c.refuse.ensures
