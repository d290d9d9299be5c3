use Rattle.api_model.specs.Definition.{document}
use Rattle.admin_routes.proofs.Refusing.{refused_is}
use Rattle.admin_routes.proofs.asking.put_document.Goals as goal

pub returns-in-Err : goal.returns-in-Err
returns-in-Err c = refused_is c.refuse.result c.args.api (document c.args.body.now) c.in-Err.fault c.in-Err.ensures.refused c.refuse.ensures
