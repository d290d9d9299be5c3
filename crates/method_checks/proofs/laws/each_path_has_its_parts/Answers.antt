use Rattle.std.proofs.Common.{List, map, subst}
use Rattle.resource_tree.specs.declared.part.Part.{Part}
use Rattle.api_model.specs.Definition.{parts_of}
use Rattle.api_resources.specs.Paths.{IsTree}
use Rattle.api_resources.specs.Resources.{path_of}
use Rattle.method_checks.specs.Routing.{paths_of}
use Rattle.method_checks.proofs.Trees.{tree_is}
use Rattle.method_checks.proofs.laws.each_path_has_its_parts.Goals as goal

pub returns : goal.returns
unfolding paths_of
returns c =
    let resources = (parts_of c.args.api.now).resources in
    subst (λ (tree : List (List Part)). IsTree (map path_of resources) tree) (tree_is c.tree-tree.result.now resources c.tree-tree.ensures) c.tree-tree.ensures
