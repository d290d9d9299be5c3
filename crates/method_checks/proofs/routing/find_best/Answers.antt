use Rattle.method_checks.proofs.Best.{number_is}
use Rattle.method_checks.proofs.routing.find_best.Goals as goal

pub returns-clause-number : goal.returns-clause-number
returns-clause-number c = number_is c.args.tree.now c.args.segments.now c.find.result c.find.ensures.best c.find.ensures.only c.find.ensures.none
