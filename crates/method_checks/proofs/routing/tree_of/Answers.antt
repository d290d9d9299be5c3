use Rattle.api_model.specs.Definition.{parts_of}
use Rattle.method_checks.specs.Routing.{paths_of}
use Rattle.method_checks.proofs.Trees.{tree_is}
use Rattle.method_checks.proofs.routing.tree_of.Goals as goal

pub returns-clause-paths : goal.returns-clause-paths
unfolding paths_of
returns-clause-paths c = tree_is c.tree.result.now (parts_of c.args.api.now).resources c.tree.ensures
